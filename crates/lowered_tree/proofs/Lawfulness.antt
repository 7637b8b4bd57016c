-- What a well-formed tree means has lawful rules.
use Rattle.std.proofs.Common.{refl, arith, false, List, [], ◌∷◌, Some, lit≤}
use Rattle.std.proofs.lemmas.Bool.{and_right}
use Rattle.std.proofs.lemmas.Int.{ints}
use Rattle.moment_core.specs.Sets.{moments_in}
use Rattle.moment_core.specs.declared.line.Stamp.{Stamp}
use Rattle.frame_core.specs.Frames.{HasPeriod, Repeats}
use Rattle.frame_core.specs.Laws.{ConstantSetsRepeat}
use Rattle.field_rules.specs.Laws.{CheckedRulesRepeat}
use Rattle.ical_rules.specs.Laws.{CheckedIcalRulesRepeat}
use Rattle.expr_tree.specs.Lists.{has_listed, list_frame, meaning_of_list}
use Rattle.expr_tree.specs.Tree.{Listed, Field, Ical, Empty, Spanned, Ruled, Joined, Pairs, Unary}
use Rattle.search_core.specs.Lawful.{IsLawful}
use Rattle.lowered_tree.specs.Laws.{WellFormedAreLawful}
use Rattle.lowered_tree.proofs.Listing.{earliest-is, latest-is, met_nowhere}

list_repeats : ConstantSetsRepeat → (stamps : List Stamp) → Repeats (moments_in (has_listed stamps))
    (list_frame stamps)
list_repeats constant [] =
    constant (moments_in (has_listed [])) (list_frame []) false false (λ p h. and_right _ false
    refl) (λ p h. and_right _ false refl)
list_repeats constant (stamp ∷ stamps) =
    let has = has_listed (stamp ∷ stamps) in
    constant (moments_in has) (list_frame (stamp ∷ stamps)) false false
    (λ p h. met_nowhere has p (λ t e. (latest-is stamp stamps).1 t (omega (arith, ints))))
    (λ p h. met_nowhere has p (λ t e. (earliest-is stamp stamps).1 t (omega (arith, ints))))

-- a list is a lawful rule
list_period : (stamps : List Stamp) → HasPeriod (Some (list_frame stamps))
list_period [] = (lit≤ tt, lit≤ tt)
list_period (stamp ∷ stamps) = (lit≤ tt, lit≤ tt)

list_lawful : ConstantSetsRepeat → (stamps : List Stamp) → IsLawful (meaning_of_list stamps)
list_lawful constant stamps =
    record { period = list_period stamps; repeats = list_repeats constant stamps }

-- so is a rule by fields or of RFC 5545, and what a well-formed tree means is made of such rules
pub are_lawful : ConstantSetsRepeat → CheckedRulesRepeat → CheckedIcalRulesRepeat
    → WellFormedAreLawful
are_lawful constant fields icals entries Empty h = tt
are_lawful constant fields icals entries (Spanned bounds low high) h = tt
are_lawful constant fields icals entries (Ruled (Listed stamps)) h = list_lawful constant stamps
are_lawful constant fields icals entries (Ruled (Field rule)) h =
    let repeats = fields rule h.0 in record { period = repeats.0; repeats = repeats.1 }
are_lawful constant fields icals entries (Ruled (Ical rule)) h =
    let repeats = icals rule h.0.checked h.2 in record { period = repeats.0; repeats = repeats.1 }
are_lawful constant fields icals entries (Joined op a b) h =
    (are_lawful constant fields icals entries a h.0, are_lawful constant fields icals entries b h.1)
are_lawful constant fields icals entries (Pairs a b) h =
    (are_lawful constant fields icals entries a h.0, are_lawful constant fields icals entries b h.1)
are_lawful constant fields icals entries (Unary op a) h =
    are_lawful constant fields icals entries a h
