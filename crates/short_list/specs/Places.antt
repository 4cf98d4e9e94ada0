-- A short list's items give its places back.
use Rattle.std.proofs.Common.{◌≡◌, ℕ, ◌-◌, ◌≤◌, List, ◌++◌, length, take, drop, replicate, take-append-drop, length-take-le}

module _ {T : Type 0} (n cap : ℕ) (b : T) (xs : List T) (fits : n ≤ cap) (full : length xs ≡ cap) where
  pub length_given_back : length (take n xs) ≡ n
  length_given_back = length-take-le n xs (rw full fits)

  pub places_given_back : drop n xs ≡ replicate (cap - n) b → take n xs ++ replicate (cap - length (take n xs)) b ≡ xs
  places_given_back blank = rw (length_given_back, ← blank) (take-append-drop n xs)
