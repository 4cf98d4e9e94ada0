-- Places joined by edges: the relation, and a test that decides it. A forest of edges is what lets any one part's bit be
-- set: the places that are joined to one end are flipped together (an Othello map).
use Rattle.std.specs.Prelude.{ℕ, Bool, true, false, cond, List, [], ◌∷◌, map, ◌==◌}
use Rattle.shared.specs.Lists.{Among}

infixl 30 ◌⊕◌
abbrev pub Edge : Type 0
Edge = ℕ × ℕ

-- x and y are joined: a walk along edges, each in either direction
pub data Joined (es : List Edge) : ℕ → ℕ → Type 0 where
  same : {x : ℕ} → Joined es x x
  along : {x y z : ℕ} → Among (x, y) es → Joined es y z → Joined es x z
  back : {x y z : ℕ} → Among (y, x) es → Joined es y z → Joined es x z

-- the class of a place: each edge gives the class of its first end the name of its second end's class
abbrev pub label : List Edge → ℕ → ℕ
label [] = λ x. x
label (e ∷ es) =
    let f = label es in
    let from = f e.0 in
    let to = f e.1 in
    λ x. let c = f x in cond (c == from) to c

-- the test: joined places are those of one class
abbrev pub joins : List Edge → ℕ → ℕ → Bool
joins es x y = label es x == label es y

-- exclusive or
abbrev pub ◌⊕◌ : Bool → Bool → Bool
true ⊕ true = false
true ⊕ false = true
false ⊕ b = b

-- the bit of an edge, and the row in which the places that pass a test are turned over
abbrev pub bit_of : (ℕ → Bool) → Edge → Bool
bit_of row e = row e.0 ⊕ row e.1

abbrev pub flipped : (ℕ → Bool) → (ℕ → Bool) → ℕ → Bool
flipped hit row p = hit p ⊕ row p

-- the parts of a list but one
abbrev pub without : {P : Type 0} → (P → P → Bool) → P → List P → List P
without eq k [] = []
without eq k (p ∷ ps) = let rest = without eq k ps in cond (eq k p) rest (p ∷ rest)

-- no circle: no part's two places are joined by the edges of the others
abbrev pub Forest : {P : Type 0} → (P → P → Bool) → (P → Edge) → List P → Type 0
Forest {P} eq edge ps = (k : P) → Among k ps → Joined (map edge (without eq k ps)) (edge k).0 (edge k).1 → ⊥
