-- Whether the counts of a tree's rules are settled, each within so many candidates.
use Rattle.std.specs.Prelude.{◌⊎◌, Ok, Err}
use Rattle.ical_rules.specs.Settling.{IsSettling}
use Rattle.ical_rules.specs.declared.outcome.Settled.{Settled}
use Rattle.ical_rules.specs.declared.outcome.Unsettled.{Unsettled}
use Rattle.expr_tree.specs.Tree.{Rule, Listed, Field, Ical, Tree, Empty, Spanned, Ruled, Joined, Pairs, Unary}
use Rattle.lowered_tree.specs.declared.faults.PlanFault.{PlanFault}
use Rattle.lowered_tree.specs.declared.faults.PlanFault.TheVariants.{Settle, Memory}
use Rattle.lowered_tree.specs.declared.faults.TheConstants.{SETTLE_LIMIT}

-- it is known where each rule's COUNT ends it
abbrev pub AreSettled : Tree Rule → Type 0
AreSettled Empty = Unit {0}
AreSettled (Spanned bounds low high) = Unit {0}
AreSettled (Ruled (Listed stamps)) = Unit {0}
AreSettled (Ruled (Field rule)) = Unit {0}
AreSettled (Ruled (Ical rule)) = (settled : Settled) × IsSettling rule SETTLE_LIMIT (Ok settled)
AreSettled (Joined op a b) = AreSettled a × AreSettled b
AreSettled (Pairs a b) = AreSettled a × AreSettled b
AreSettled (Unary op a) = AreSettled a

-- the first rule of the tree, left before right, for which it isn't
abbrev pub IsFirstUnsettled : Tree Rule → Unsettled → Type 0
IsFirstUnsettled Empty u = ⊥
IsFirstUnsettled (Spanned bounds low high) u = ⊥
IsFirstUnsettled (Ruled (Listed stamps)) u = ⊥
IsFirstUnsettled (Ruled (Field rule)) u = ⊥
IsFirstUnsettled (Ruled (Ical rule)) u = IsSettling rule SETTLE_LIMIT (Err u)
IsFirstUnsettled (Joined op a b) u = IsFirstUnsettled a u ⊎ (AreSettled a × IsFirstUnsettled b u)
IsFirstUnsettled (Pairs a b) u = IsFirstUnsettled a u ⊎ (AreSettled a × IsFirstUnsettled b u)
IsFirstUnsettled (Unary op a) u = IsFirstUnsettled a u

-- the fault of a tree that has such a rule; want of memory is none of the tree's
abbrev pub IsFaultOf : Tree Rule → PlanFault → Type 0
IsFaultOf t (Settle passed at) = IsFirstUnsettled t (record { passed = passed; at = at })
IsFaultOf t Memory = Unit {0}
