-- Reading a part of each element of a list.
use Rattle.std.proofs.Common.{◌≡◌, ◌<◌, ℕ, List, map, length, Some, get_or, refl, ap, ◌∙◌, arith}
use Rattle.std.proofs.lemmas.List.{length-map}
use Rattle.std.proofs.lemmas.Option.{slice_get-map, slice_get_read}
use Rattle.std.specs.Prelude.{slice_get, option_map}

-- the part of the element that was read at a place
pub slice_get-map_read : {A B : Type 0} (part : A → B) (xs : List A) (k : ℕ) (x : A) → x
    ≡ get_or xs k x → k < length (map part xs) → slice_get (map part xs) k ≡ Some (part x)
slice_get-map_read part xs k x e inside =
    let within : k < length xs = omega (arith, length-map xs part) in
    slice_get-map part xs k ∙ ap (option_map part) (slice_get_read xs (length xs) k x refl within e)
