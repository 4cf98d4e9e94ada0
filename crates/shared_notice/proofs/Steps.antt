-- What a pass sees of a step.
use Rattle.std.proofs.Common.{◌≡◌, ℕ, ◌+◌, true, List, [], ◌∷◌, ◌++◌, drop, Ok, codes, Result, ap, ◌∙◌}
use Rattle.std.proofs.lemmas.List.{append_assoc}
use Rattle.std.proofs.lemmas.Bool.{cond-true}
use Rattle.shared.specs.declared.refusal.Fault.{Fault}
use Rattle.shared.specs.Forms.{and_then, pair, toks_at}
use Rattle.shared.specs.Notice.{Kind, BucketParts, as_bucket, line_end, bucket_form, step_at, step_form}
use Rattle.shared.specs.Tokens.{Open, mark, token_of, is_word, size}
use Rattle.shared_text.specs.Events.{Event, end_bucket, step_events}
use Rattle.shared_notice.specs.Walks.{beside, walked, a_form, b_form, row_events, content_form, content_events, bucket_events}
use Rattle.shared_notice.proofs.Seen.{walk-on, then_assoc, walked_same, walked_as, walked-pair, walked-trail}

module _ {V : Type 0} (after : V → Event → V) (kind : Kind) (text : List ℕ) (v : V) (at : ℕ) where
  bucket_parts : (x : BucketParts) → bucket_events x ≡ (content_events x.0 ++ row_events x.1) ++ (end_bucket ∷ [])
  bucket_parts x = simp append_assoc

  bucket_seen : walked after bucket_events v ((bucket_form kind).reads text at) ≡ and_then (walked after content_events v ((content_form kind).reads text at)) (λ x. and_then (walked after row_events x.0 ((pair a_form b_form).reads text x.1)) (λ y. beside (after y.0 end_bucket) (toks_at line_end text y.1)))
  bucket_seen =
      walked_same after v bucket_events (λ x. (content_events x.0 ++ row_events x.1) ++ (end_bucket ∷ [])) bucket_parts ((bucket_form kind).reads text at)
      ∙ walked-trail after v (λ (x : BucketParts). content_events x.0 ++ row_events x.1) (end_bucket ∷ []) ((pair (content_form kind) (pair a_form b_form)).reads text at) (toks_at line_end text)
      ∙ ap (λ z. and_then z (λ y. beside (after y.0 end_bucket) (toks_at line_end text y.1)))
      (walked-pair after v content_events row_events ((content_form kind).reads text at) ((pair a_form b_form).reads text))
      ∙ then_assoc (walked after content_events v ((content_form kind).reads text at)) (λ x. walked after row_events x.0 ((pair a_form b_form).reads text x.1)) (λ y. beside (after y.0 end_bucket) (toks_at line_end text y.1))

  -- behind the content
  pub bucket_rest : (w : V) (r : Result ℕ Fault) (p : ℕ) → beside w r ≡ walked after content_events v ((content_form kind).reads text at) → r ≡ Ok p → walked after bucket_events v ((bucket_form kind).reads text at) ≡ and_then (walked after row_events w ((pair a_form b_form).reads text p)) (λ y. beside (after y.0 end_bucket) (toks_at line_end text y.1))
  bucket_rest w r p e f =
      bucket_seen
      ∙ walk-on w r (walked after content_events v ((content_form kind).reads text at))
      (λ x. and_then (walked after row_events x.0 ((pair a_form b_form).reads text x.1)) (λ y. beside (after y.0 end_bucket) (toks_at line_end text y.1))) p e f

  step-opened : (p : ℕ) → toks_at (mark Open ∷ []) text at ≡ Ok p → walked after step_events v ((step_form kind).reads text at) ≡ walked after step_events v (step_at kind text p)
  step-opened p e = ap (λ z. walked after step_events v (and_then z (λ p. step_at kind text p))) e

  pub step-bucket : (p : ℕ) → toks_at (mark Open ∷ []) text at ≡ Ok p → is_word (codes "bucket") (token_of (drop p text)) ≡ true → walked after step_events v ((step_form kind).reads text at) ≡ walked after bucket_events v ((bucket_form kind).reads text (p + size (token_of (drop p text))))
  step-bucket p e b =
      step-opened p e ∙ ap (walked after step_events v) (cond-true (is_word (codes "bucket") (token_of (drop p text))) _ _ b)
      ∙ walked_as after v step_events as_bucket ((bucket_form kind).reads text (p + size (token_of (drop p text))))
