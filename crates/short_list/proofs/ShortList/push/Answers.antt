use Rattle.std.proofs.Common.{◌≡◌, ◌∙◌, length, length-set, length-take-le, sym, ap, arith}
use Rattle.short_list.proofs.Pushes.{still_blank}
use Rattle.short_list.proofs.ShortList.push.Goals as goal

pub invariant_of-self : goal.invariant_of-self
invariant_of-self g c =
    let v = c.self.inside in
    let i = c.self.invariant in
    let long : v.len ≡ length c.args.self.now.items = sym (length-take-le v.len v.places (rw i.1 i.0)) ∙ ap (λ w. length w.items) c.self.view_is in
    (omega (arith, long, c.requires), length-set v.places v.len _ ∙ i.1, still_blank v.len g.row.CAP _ v.places _ i.2)
