-- A notice's tokens spell its events' texts.
use Rattle.std.proofs.Common.{◌≡◌, ℕ, suc, List, [], ◌∷◌, ◌++◌, map, length, codes, sym, refl, ap, ◌∙◌, append_assoc}
use Rattle.std.proofs.lemmas.List.{append-nil}
use Rattle.shared.specs.Forms.{lead, times_tokens, series_tokens, ascending_tokens}
use Rattle.shared.specs.Notice.{Setting, Kind, Step, bucket, single, small, gap, setting_form, step_form, end_form}
use Rattle.shared.specs.Tokens.{Open, Close, Space, Line, Tok, mark, word, spelled, spell, numeral}
use Rattle.shared_text.specs.Events.{Event, row_a, row_b, flip, end_bucket, slot_step, settings_from, step_events, events_of}
use Rattle.shared_pen.specs.Pens.{number_text, behind_spaces, numbers_text, setting_text, event_text, events_text, head_text, end_text, NoticeInEvents}

spell-append : (xs ys : List Tok) → spell (xs ++ ys) ≡ spell xs ++ spell ys
spell-append [] ys = refl
spell-append (t ∷ xs) ys = ap (λ l. spelled t ++ l) (spell-append xs ys) ∙ sym (append_assoc (spelled t) (spell xs) (spell ys))

events_append : (xs ys : List Event) → events_text (xs ++ ys) ≡ events_text xs ++ events_text ys
events_append [] ys = refl
events_append (e ∷ xs) ys = ap (λ l. event_text e ++ l) (events_append xs ys) ∙ sym (append_assoc (event_text e) (events_text xs) (events_text ys))

behind-spelled : (vs : List ℕ) → spell (times_tokens (lead gap small) vs) ≡ behind_spaces vs
unfolding number_text
behind-spelled [] = refl
behind-spelled (v ∷ vs) = ap (λ l. 32 ∷ (number_text v ++ l)) (behind-spelled vs)

numbers-spelled : (vs : List ℕ) → spell (series_tokens small vs) ≡ numbers_text vs
unfolding number_text
numbers-spelled [] = refl
numbers-spelled (v ∷ vs) = ap (λ l. number_text v ++ l) (behind-spelled vs)

setting_spelled : (kind : Kind) (v : Setting) → spell ((setting_form kind).tokens v) ≡ setting_text v
setting_spelled kind v = ap (λ l. 40 ∷ l) (spell-append (series_tokens small v) (mark Close ∷ []) ∙ ap (λ l. l ++ (41 ∷ [])) (numbers-spelled v))

flips-spelled : (ps : List ℕ) → spell (ascending_tokens ps) ≡ events_text (map flip ps) ++ (41 ∷ [])
unfolding number_text
flips-spelled [] = refl
flips-spelled (p ∷ ps) = ap (λ l. 32 ∷ (number_text p ++ l)) (flips-spelled ps) ∙ ap (λ l. 32 ∷ l) (sym (append_assoc (number_text p) (events_text (map flip ps)) (41 ∷ [])))

more-spelled : (kind : Kind) (i : ℕ) (vs : List Setting) → spell (times_tokens (lead gap (setting_form kind)) vs) ≡ events_text (settings_from (suc i) vs)
more-spelled kind i [] = refl
more-spelled kind i (v ∷ vs) =
    ap (λ l. 32 ∷ l) (spell-append ((setting_form kind).tokens v) (times_tokens (lead gap (setting_form kind)) vs)
    ∙ ap (λ l. l ++ spell (times_tokens (lead gap (setting_form kind)) vs)) (setting_spelled kind v)
    ∙ ap (λ l. setting_text v ++ l) (more-spelled kind (suc i) vs))

settings-spelled : (kind : Kind) (vs : List Setting) → spell (series_tokens (setting_form kind) vs) ≡ events_text (settings_from 0 vs)
settings-spelled kind [] = refl
settings-spelled kind (v ∷ vs) =
    spell-append ((setting_form kind).tokens v) (times_tokens (lead gap (setting_form kind)) vs)
    ∙ ap (λ l. l ++ spell (times_tokens (lead gap (setting_form kind)) vs)) (setting_spelled kind v)
    ∙ ap (λ l. setting_text v ++ l) (more-spelled kind 0 vs)

-- a step's tokens and its events' texts, each joined to the right; the numbers' words are any words here
bucket_tokens : (j s : List ℕ) (vs pa pb : List Tok) → spell (((mark Space ∷ word j ∷ mark Space ∷ word s ∷ mark Space ∷ mark Open ∷ vs) ++ ((mark Close ∷ mark Space ∷ mark Open ∷ word (codes "a") ∷ pa) ++ (mark Space ∷ mark Open ∷ word (codes "b") ∷ pb))) ++ (mark Close ∷ mark Line ∷ [])) ≡ 32 ∷ (j ++ (32 ∷ (s ++ (32 ∷ 40 ∷ (spell vs ++ (41 ∷ 32 ∷ 40 ∷ 97 ∷ (spell pa ++ (32 ∷ 40 ∷ 98 ∷ (spell pb ++ (41 ∷ 10 ∷ []))))))))))
bucket_tokens j s vs pa pb =
    let front = mark Space ∷ word j ∷ mark Space ∷ word s ∷ mark Space ∷ mark Open ∷ vs in
    let rowa = mark Close ∷ mark Space ∷ mark Open ∷ word (codes "a") ∷ pa in
    let rowb = mark Space ∷ mark Open ∷ word (codes "b") ∷ pb in
    spell-append (front ++ (rowa ++ rowb)) (mark Close ∷ mark Line ∷ [])
    ∙ ap (λ l. l ++ (41 ∷ 10 ∷ [])) (spell-append front (rowa ++ rowb) ∙ ap (λ l. spell front ++ l) (spell-append rowa rowb))
    ∙ simp append_assoc

bucket_events_lem : (j s : List ℕ) (vs pa pb : List Event) → (codes "(bucket " ++ (j ++ (32 ∷ (s ++ codes " (")))) ++ events_text (vs ++ (row_a ∷ (pa ++ (row_b ∷ (pb ++ (end_bucket ∷ [])))))) ≡ codes "(bucket" ++ (32 ∷ (j ++ (32 ∷ (s ++ (32 ∷ 40 ∷ (events_text vs ++ (41 ∷ 32 ∷ 40 ∷ 97 ∷ ((events_text pa ++ (41 ∷ [])) ++ (32 ∷ 40 ∷ 98 ∷ ((events_text pb ++ (41 ∷ [])) ++ (41 ∷ 10 ∷ [])))))))))))
bucket_events_lem j s vs pa pb = simp (events_append, append_assoc)

slot_tokens : (j i : List ℕ) (v : List Tok) → spell ((mark Space ∷ word j ∷ mark Space ∷ word i ∷ mark Space ∷ v) ++ (mark Close ∷ mark Line ∷ [])) ≡ 32 ∷ (j ++ (32 ∷ (i ++ (32 ∷ (spell v ++ (41 ∷ 10 ∷ []))))))
slot_tokens j i v = simp (spell-append, append_assoc)

three_same : (f : List ℕ → List ℕ → List ℕ → List ℕ) {a b c x y z : List ℕ} → a ≡ x → b ≡ y → c ≡ z → f a b c ≡ f x y z
three_same f p q r = cc

step-spelled : (kind : Kind) (s : Step) → spell ((step_form kind).tokens s) ≡ events_text (step_events s)
unfolding number_text
step-spelled kind (bucket j s vs pa pb) =
    ap (λ l. codes "(bucket" ++ l)
    (bucket_tokens (numeral j) (numeral s) (series_tokens (setting_form kind) vs) (ascending_tokens pa) (ascending_tokens pb)
    ∙ three_same (λ x y z. 32 ∷ (numeral j ++ (32 ∷ (numeral s ++ (32 ∷ 40 ∷ (x ++ (41 ∷ 32 ∷ 40 ∷ 97 ∷ (y ++ (32 ∷ 40 ∷ 98 ∷ (z ++ (41 ∷ 10 ∷ []))))))))))) (settings-spelled kind vs) (flips-spelled pa) (flips-spelled pb))
    ∙ sym (bucket_events_lem (numeral j) (numeral s) (settings_from 0 vs) (map flip pa) (map flip pb))
step-spelled kind (single j i v) =
    ap (λ l. codes "(slot" ++ l)
    (slot_tokens (numeral j) (numeral i) ((setting_form kind).tokens v)
    ∙ ap (λ x. 32 ∷ (numeral j ++ (32 ∷ (numeral i ++ (32 ∷ (x ++ (41 ∷ 10 ∷ []))))))) (setting_spelled kind v))
    ∙ sym (append-nil (event_text (slot_step j i v)))

steps-spelled : (kind : Kind) (ss : List Step) → spell (times_tokens (step_form kind) ss) ≡ events_text (events_of ss)
steps-spelled kind [] = refl
steps-spelled kind (s ∷ ss) =
    spell-append ((step_form kind).tokens s) (times_tokens (step_form kind) ss)
    ∙ ap (λ l. l ++ spell (times_tokens (step_form kind) ss)) (step-spelled kind s)
    ∙ ap (λ l. events_text (step_events s) ++ l) (steps-spelled kind ss)
    ∙ sym (events_append (step_events s) (events_of ss))

head_before : (n c rest : List ℕ) → codes "(notice " ++ (n ++ (32 ∷ (c ++ (41 ∷ 10 ∷ rest)))) ≡ (codes "(notice " ++ (n ++ (32 ∷ (c ++ (41 ∷ 10 ∷ []))))) ++ rest
head_before n c rest = simp append_assoc

pub in_events : NoticeInEvents
unfolding number_text
in_events kind n ss =
    head_before (numeral n) (numeral (length ss)) (spell (times_tokens (step_form kind) ss ++ (end_form n).tokens n))
    ∙ ap (λ l. head_text n (length ss) ++ l)
    (spell-append (times_tokens (step_form kind) ss) ((end_form n).tokens n) ∙ ap (λ l. l ++ end_text n) (steps-spelled kind ss))
