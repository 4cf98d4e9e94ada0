-- What reading a digest answers.
use Rattle.std.proofs.Common.{◌≡◌, ℕ, List, Ok, Err, Result, sym, refl, subst}
use Rattle.shared.specs.declared.refusal.Fault.{Fault}
use Rattle.shared.specs.declared.sizes.Sizes.{Sizes}
use Rattle.shared.specs.Notice.{Kind, Notice, read_notice}
use Rattle.shared_notice.specs.Walks.{passed, with_number}
use Rattle.take_digest.specs.declared.digest.Digest.{Digest}
use Rattle.take_digest.specs.Digests.{empty, digested}
use Rattle.take_digest.specs.Shows.{DigestRead}
use Rattle.take_digest.proofs.Forms.{read_formed}
use Rattle.take_digest.proofs.Noted.{digest_shows}

pub digest_read : (kind : Kind) (z : Sizes) (text : List ℕ) (v w : Digest) (r : Result ℕ Fault) → v ≡ empty z
    → with_number w r ≡ passed digested v (read_notice kind text) → DigestRead kind z text (with_number w r)
digest_read kind z text v w r is e =
    subst (DigestRead kind z text) (sym e) (subst (λ (d : Digest). DigestRead kind z text (passed digested d (read_notice kind text))) (sym is) (go (read_notice kind text) refl))
  where
    go : (m : Result Notice Fault) → read_notice kind text ≡ m → DigestRead kind z text (passed digested (empty z) m)
    go (Ok m) is = let formed = read_formed kind text m.0 m.1 is in (m.1, is, digest_shows z m.1 formed.few formed.shape)
    go (Err f) is = is
