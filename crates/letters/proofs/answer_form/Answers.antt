use Rattle.std.proofs.Common.{ℕ, ◌++◌, List, vec_items, sym, ap, ◌∙◌}
use Rattle.letters.proofs.Forms.{form_of-last}
use Rattle.letters.proofs.answer_form.Goals as goal

pub returns-in_default-clause-printed : goal.returns-in_default-clause-printed
returns-in_default-clause-printed c =
    c.in_ok-push_refused.ensures
    ∙ ap (λ (form : List ℕ × List ℕ). vec_items c.args.out.now ++ form.0) (sym (form_of-last c.args.input.now c.in_default.ensures.none))
