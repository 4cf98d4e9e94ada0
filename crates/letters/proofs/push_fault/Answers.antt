use Rattle.std.proofs.Common.{[], ◌∷◌, ◌++◌, vec_items, codes, ap, ◌∙◌}
use Rattle.shared_pen.specs.Pens.{number_text}
use Rattle.letters.specs.Letters.{cause_name}
use Rattle.letters.proofs.Prints.{five_pushed, OnOk-then}
use Rattle.letters.proofs.push_fault.Goals as goal

pub returns : goal.returns
returns c =
    let o = vec_items c.extend_from_slice-2.new.self in
    let front = vec_items c.push.new.self in
    OnOk-then c.extend_from_slice-3.result (vec_items c.extend_from_slice-3.new.self) _ _ c.extend_from_slice-3.ensures.items
    (λ last.
    five_pushed (vec_items c.args.out.now) (vec_items c.extend_from_slice.new.self) (vec_items c.push_number.new.out) front o _
    (codes "(refused 14 ") (number_text c.args.fault.place) (32 ∷ []) (cause_name c.args.fault.cause) (41 ∷ 10 ∷ [])
    c.in_ok-extend_from_slice.ensures.items c.in_ok-push_number.ensures c.in_ok-push.ensures.items
    (c.in_ok-extend_from_slice-2.ensures.items ∙ ap (λ l. front ++ l) (c.as_bytes.ensures.value ∙ c.cause_name.ensures)) last)
