-- What a digest is after each piece of a notice.
use Rattle.std.specs.Prelude.{ℕ, Bool, true, cond, ◌&&◌, List, [], ◌∷◌, ◌++◌, length, nat_lt, slice_index, Some, None}
use Rattle.shared.specs.declared.sizes.Sizes.{Sizes}
use Rattle.shared.specs.Notice.{Setting}
use Rattle.shared_text.specs.declared.row.Row.{Row}
use Rattle.shared_text.specs.declared.row.Row.TheVariants.{A, B}
use Rattle.shared_text.specs.Events.{Event, begin_bucket, setting_at, row_a, row_b, flip, end_bucket, slot_step}
use Rattle.take_digest.specs.declared.digest.Digest.{Digest}
use Rattle.take_digest.specs.declared.digest.Head.{Head}
use Rattle.take_digest.specs.declared.digest.Write.{Write}

-- a step on the whole bucket j, and one on a slot of it
abbrev pub whole_head : ℕ → ℕ → Head
whole_head j s = record { bucket = j; seed = Some s }

abbrev pub slot_head : ℕ → Head
slot_head j = record { bucket = j; seed = None }

-- the setting v for slot i of bucket j, by its first four numbers
abbrev pub write_of : ℕ → ℕ → Setting → Write
write_of j i v = record { bucket = j; slot = i; numbers = slice_index v 0 ∷ slice_index v 1 ∷ slice_index v 2 ∷ slice_index v 3 ∷ [] }

-- how many places a row has
abbrev pub limit_of : Sizes → Row → ℕ
limit_of z A = z.a
limit_of z B = z.b

-- one more, as long as there are fewer than n
abbrev pub pushed : {T : Type 0} → ℕ → List T → T → List T
pushed n xs x = cond (nat_lt (length xs) n) (xs ++ (x ∷ [])) xs

-- these steps and settings, what the tests came to, and where the pass is
abbrev pub noted : Sizes → List Head → List Write → Bool → ℕ → Row → Digest
noted z hs ws b j row = record { sizes = z; heads = record { items = hs }; writes = record { items = ws }; inside = b; current = j; row = row }

-- no step yet
abbrev pub empty : Sizes → Digest
empty z = noted z [] [] true 0 A

-- one head more, and one setting more, as long as there is room
abbrev pub with_head : Digest → Head → Digest
with_head d h = noted d.sizes (pushed 5 d.heads.items h) d.writes.items d.inside d.current d.row

abbrev pub with_write : Digest → Write → Digest
with_write d w = noted d.sizes d.heads.items (pushed 20 d.writes.items w) d.inside d.current d.row

-- another test passed or failed, another bucket, another row
abbrev pub judging : Digest → Bool → Digest
judging d b = noted d.sizes d.heads.items d.writes.items (d.inside && b) d.current d.row

abbrev pub on_bucket : Digest → ℕ → Digest
on_bucket d j = noted d.sizes d.heads.items d.writes.items d.inside j d.row

abbrev pub on_row : Digest → Row → Digest
on_row d row = noted d.sizes d.heads.items d.writes.items d.inside d.current row

-- the digest after a piece
abbrev pub digested : Digest → Event → Digest
digested d (begin_bucket j s) = judging (on_bucket (with_head d (whole_head j s)) j) (nat_lt j d.sizes.buckets && nat_lt s 256)
digested d (setting_at i v) = with_write d (write_of d.current i v)
digested d row_a = on_row d A
digested d row_b = on_row d B
digested d (flip p) = judging d (nat_lt p (limit_of d.sizes d.row))
digested d end_bucket = d
digested d (slot_step j i v) = judging (with_write (with_head d (slot_head j)) (write_of j i v)) (nat_lt j d.sizes.buckets && nat_lt i 4)
