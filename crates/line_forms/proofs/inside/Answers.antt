use Rattle.std.proofs.Common.{[], ◌∷◌}
use Rattle.std.proofs.lemmas.Slice.Eq.{strip_prefix_is, strip_suffix_is}
use Rattle.line_forms.proofs.Fronts.{stripped_none, stripped_some, closed-by}
use Rattle.line_forms.proofs.inside.Goals as goal
use Rattle.std.proofs.lemmas.Bool.Decides.{Decides-eqb}

pub returns-in_err-strip_prefix : goal.returns-in_err-strip_prefix
returns-in_err-strip_prefix c =
    let front = c.args.front.now in
    let line = c.args.line.now in
    stripped_none front line c.strip_prefix.result c.from_residual.result (strip_prefix_is Decides-eqb line front c.strip_prefix.result c.strip_prefix.ensures.cases) c.in_err-strip_prefix.was c.from_residual.ensures

pub returns : goal.returns
returns c =
    let front = c.args.front.now in
    let line = c.args.line.now in
    let rest = c.in_ok-strip_prefix.field-0 in
    closed-by front line rest.now c.strip_suffix.result
    (stripped_some front line c.strip_prefix.result rest (strip_prefix_is Decides-eqb line front c.strip_prefix.result c.strip_prefix.ensures.cases) c.in_ok-strip_prefix.was)
    (strip_suffix_is Decides-eqb rest.now (41 ∷ []) c.strip_suffix.result c.strip_suffix.ensures.cases)
