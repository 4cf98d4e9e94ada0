-- The digest of a notice's steps.
use Rattle.std.specs.Prelude.{◌≡◌, ℕ, suc, ◌≤◌, List, [], ◌∷◌, ◌++◌, length, Ok, Err, Result}
use Rattle.shared.specs.declared.refusal.Fault.{Fault}
use Rattle.shared.specs.declared.sizes.Sizes.{Sizes}
use Rattle.shared.specs.Notice.{Setting, Kind, Step, bucket, single, read_notice}
use Rattle.shared.specs.Table.{within}
use Rattle.take_digest.specs.declared.digest.Digest.{Digest}
use Rattle.take_digest.specs.declared.digest.Head.{Head}
use Rattle.take_digest.specs.declared.digest.Write.{Write}
use Rattle.take_digest.specs.Digests.{whole_head, slot_head, write_of}

-- the steps' heads, in order
abbrev pub heads_of : List Step → List Head
heads_of [] = []
heads_of (bucket j s vs pa pb ∷ ss) = whole_head j s ∷ heads_of ss
heads_of (single j i v ∷ ss) = slot_head j ∷ heads_of ss

-- settings for the slots of bucket j, from slot i on
abbrev pub writes_from : ℕ → ℕ → List Setting → List Write
writes_from j i [] = []
writes_from j i (v ∷ vs) = write_of j i v ∷ writes_from j (suc i) vs

-- the steps' settings with their slots, in order
abbrev pub writes_of : List Step → List Write
writes_of [] = []
writes_of (bucket j s vs pa pb ∷ ss) = writes_from j 0 vs ++ writes_of ss
writes_of (single j i v ∷ ss) = write_of j i v ∷ writes_of ss

-- what a digest tells of the steps
pub record Shows (z : Sizes) (ss : List Step) (d : Digest) : Type 0 where
  pub heads : d.heads.items ≡ heads_of ss
  pub writes : d.writes.items ≡ writes_of ss
  pub inside : d.inside ≡ within z ss
  pub few_heads : length d.heads.items ≤ 5
  pub few_writes : length d.writes.items ≤ 20

-- what reading a text answers: the number and the digest of its notice, or its fault
abbrev pub DigestRead : Kind → Sizes → List ℕ → Result (ℕ × Digest) Fault → Type 0
DigestRead kind z text (Ok x) = (ss : List Step) × (read_notice kind text ≡ Ok (x.0, ss)) × Shows z ss x.1
DigestRead kind z text (Err f) = read_notice kind text ≡ Err f
