use Rattle.shared.specs.Graph.{without}
use Rattle.shared.specs.Lists.{same_list}
use Rattle.graph_laws.specs.Graphs.{others_edges}
use Rattle.graph_laws.proofs.Same.{same_sound, same_own}
use Rattle.graph_laws.proofs.Forest.{by_joins, among_map, in_without, without_in, forest_within, forest_enter, flip_own, flip_others}
use Rattle.graph_laws.proofs.graph_laws.Goals as goal

pub returns : goal.returns
returns c = record {
  decides = by_joins;
  flips = λ edge ps forest k m end at hit only row. (
    flip_own (others_edges edge k ps) end hit only row (edge k) at (forest k m),
    λ q n apart. flip_others (others_edges edge k ps) end hit only row (edge q) (among_map edge (without same_list k ps) q (in_without same_list same_sound same_own k ps q n apart)),
  );
  grows = forest_enter same_list same_sound same_own;
  shrinks = λ edge ps k forest. forest_within same_list same_sound same_own edge ps (without same_list k ps) (λ q m. (without_in same_list same_sound same_own k ps q m).0) forest;
}
