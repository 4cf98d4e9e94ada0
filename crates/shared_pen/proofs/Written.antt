-- What stands in a pen's memory.
use Rattle.std.proofs.Common.{◌≡◌, ℕ, suc, ◌+◌, ◌-◌, ◌<◌, List, [], ◌∷◌, ◌++◌, length, take, drop, set, Some, None, Option, sym, refl, ap, ◌∙◌, subst, ⊎_elim, append_assoc, arith, length-set}
use Rattle.std.proofs.lemmas.List.{append-nil, take_all, take_more_set, drop-set-lt, take-append-drop}
use Rattle.std.proofs.lemmas.Bool.{cases_lt}
use Rattle.shared_text.specs.Events.{events_of}
use Rattle.shared_pen.specs.declared.pen.Pen.{Pen}
use Rattle.shared_pen.specs.Inks.{pen_at, inked_byte, inked}
use Rattle.shared_pen.specs.Pens.{head_text, end_text}
use Rattle.shared_pen.specs.Laws.{InkJoined, InkFits, InkOver, InkFull, InkEvents, InkNotice, Finished, InkFinished}
use Rattle.shared_pen.proofs.Inks.{poured-append, poured-none, byte_full, byte_over, byte_room}
use Rattle.shared_pen.proofs.Printed.{fold-poured, poured-notice}

pub ink_joined : InkJoined
ink_joined p a b = poured-append inked_byte p a b

pub ink_full : InkFull
ink_full p [] e = poured-none inked_byte p
ink_full p (b ∷ bs) e = sym (poured-append inked_byte p (b ∷ []) bs) ∙ ap (λ q. inked q bs) (byte_full p b e) ∙ ink_full p bs e

same_pen : (p : Pen) {x y : List ℕ} {m n : ℕ} → x ≡ y → m ≡ n → pen_at p x (Some m) ≡ pen_at p y (Some n)
same_pen p e h = cc

now_at : (p : Pen) (w : Option ℕ) → p.written ≡ w → p ≡ pen_at p p.out.now w
now_at p w e = ap (pen_at p p.out.now) e

-- a byte and the bytes after it
module _ (out : List ℕ) (at b : ℕ) (bs : List ℕ) (h : at < length out) where
  byte_fits : take (at + 1) (set out at b) ++ (bs ++ drop (at + 1 + length bs) (set out at b)) ≡ take at out ++ ((b ∷ bs) ++ drop (at + length (b ∷ bs)) out)
  byte_fits =
      ap (λ l. l ++ (bs ++ drop (at + 1 + length bs) (set out at b))) (take_more_set out at b h)
      ∙ ap (λ l. (take at out ++ (b ∷ [])) ++ (bs ++ l)) (drop-set-lt (at + 1 + length bs) out at b (omega arith) ∙ ap (λ k. drop k out) (omega arith))
      ∙ append_assoc (take at out) (b ∷ []) (bs ++ drop (at + length (b ∷ bs)) out)

  byte_over_more : take (at + 1) (set out at b) ++ take (length (set out at b) - (at + 1)) bs ≡ take at out ++ take (length out - at) (b ∷ bs)
  byte_over_more =
      let room : length out - at ≡ suc (length out - (at + 1)) = omega arith in
      ap (λ l. l ++ take (length (set out at b) - (at + 1)) bs) (take_more_set out at b h)
      ∙ ap (λ k. (take at out ++ (b ∷ [])) ++ take (k - (at + 1)) bs) (length-set out at b)
      ∙ append_assoc (take at out) (b ∷ []) (take (length out - (at + 1)) bs)
      ∙ ap (λ k. take at out ++ take k (b ∷ bs)) (sym room)

pub ink_fits : InkFits
ink_fits p at [] e h =
    poured-none inked_byte p ∙ now_at p (Some at) e
    ∙ same_pen p (sym (ap (λ k. take at p.out.now ++ drop k p.out.now) (omega arith) ∙ take-append-drop at p.out.now)) (omega arith)
ink_fits p at (b ∷ bs) e h =
    let q = pen_at p (set p.out.now at b) (Some (at + 1)) in
    sym (poured-append inked_byte p (b ∷ []) bs)
    ∙ ap (λ r. inked r bs) (byte_room p b at e (omega arith))
    ∙ ink_fits q (at + 1) bs refl (simp length-set (omega arith))
    ∙ same_pen p (byte_fits p.out.now at b bs (omega arith)) (omega arith)

pub ink_over : InkOver
ink_over p at [] e w h = absurd (omega arith)
ink_over p at (b ∷ bs) e w h =
    sym (poured-append inked_byte p (b ∷ []) bs)
    ∙ ⊎_elim
    (λ l.
    let q = pen_at p (set p.out.now at b) (Some (at + 1)) in
    ap (λ r. inked r bs) (byte_room p b at e l)
    ∙ ink_over q (at + 1) bs refl (simp length-set (omega arith)) (simp length-set (omega arith))
    ∙ ap (λ x. pen_at p x None) (byte_over_more p.out.now at b bs l))
    (λ l.
    let none : length p.out.now - at ≡ 0 = omega arith in
    ap (λ r. inked r bs) (byte_over p b at e l)
    ∙ ink_full (pen_at p p.out.now None) bs refl
    ∙ ap (λ x. pen_at p x None) (sym (ap (λ k. take at p.out.now ++ take k (b ∷ bs)) none ∙ append-nil (take at p.out.now) ∙ take_all at p.out.now l)))
    (cases_lt at (length p.out.now))

pub ink_events : InkEvents
ink_events = fold-poured inked_byte

pub ink_notice : InkNotice
ink_notice p kind n steps =
    ap (λ r. inked r (end_text n)) (ink_events (inked p (head_text n (length steps))) (events_of steps)) ∙ poured-notice inked_byte p kind n steps

pub ink_finished : InkFinished
ink_finished p q text r f w e =
    ⊎_elim
    (λ l.
    let s = w ∙ ink_over p 0 text f (omega arith) (omega arith) in
    (sym (ap (λ x. x.out.ghost_name) s), subst (Finished text p.out.now q.out.now) (sym (e ∙ ap (λ x. x.written) s)) l))
    (λ l.
    let s = w ∙ ink_fits p 0 text f (omega arith) in (
      sym (ap (λ x. x.out.ghost_name) s),
      subst (Finished text p.out.now q.out.now) (sym (e ∙ ap (λ x. x.written) s))
          (omega arith, ap (λ x. x.out.now) s ∙ ap (λ k. text ++ drop k p.out.now) (omega arith)),
    ))
    (cases_lt (length p.out.now) (length text))
