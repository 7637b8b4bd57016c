-- Counts that are settled, and the first one that isn't.
use Rattle.std.proofs.Common.{◌≡◌, ◌⊎◌, ℤ, inl, inr, lit≤, Option, Some, None, Result, Ok, Err}
use Rattle.ical_rules.specs.Settling.{IsSettling, IsSettlingBy, OutcomesAreOne, OutcomesExist}
use Rattle.ical_rules.specs.declared.outcome.Settled.{Settled}
use Rattle.ical_rules.specs.declared.outcome.Unsettled.{Unsettled}
use Rattle.moment_core.specs.Line.{IsWorkingMoment}
use Rattle.moment_core.specs.declared.joining.Op.{Op}
use Rattle.moment_core.specs.declared.joining.UnaryOp.{UnaryOp}
use Rattle.rule_core.specs.declared.ical.IcalRule.{IcalRule}
use Rattle.expr_tree.specs.Tree.{Rule, Listed, Field, Ical, Tree, Empty, Spanned, Ruled, Joined, Pairs, Unary}
use Rattle.lowered_tree.specs.Laws.{FirstUnsettledIsOne, SettledHaveNone, TreesSettleOrNot, UnsettledAreWorking}
use Rattle.lowered_tree.specs.Settling.{AreSettled, IsFaultOf, IsFirstUnsettled}
use Rattle.lowered_tree.specs.declared.faults.PlanFault.{PlanFault}
use Rattle.lowered_tree.specs.declared.faults.PlanFault.TheVariants.{Settle, Memory}
use Rattle.lowered_tree.specs.declared.faults.TheConstants.{SETTLE_LIMIT}

-- faults of what joins two trees, and of spans from one up to the other
pub fault_of_first : (op : Op) (a b : Tree Rule) (fault : PlanFault) → IsFaultOf a fault
    → IsFaultOf (Joined op a b) fault
fault_of_first op a b (Settle passed at) h = inl h
fault_of_first op a b Memory h = tt

pub fault_of_second : (op : Op) (a b : Tree Rule) (fault : PlanFault) → AreSettled a
    → IsFaultOf b fault → IsFaultOf (Joined op a b) fault
fault_of_second op a b (Settle passed at) settled h = inr (settled, h)
fault_of_second op a b Memory settled h = tt

pub fault_of_opening : (a b : Tree Rule) (fault : PlanFault) → IsFaultOf a fault
    → IsFaultOf (Pairs a b) fault
fault_of_opening a b (Settle passed at) h = inl h
fault_of_opening a b Memory h = tt

pub fault_of_closing : (a b : Tree Rule) (fault : PlanFault) → AreSettled a → IsFaultOf b fault
    → IsFaultOf (Pairs a b) fault
fault_of_closing a b (Settle passed at) settled h = inr (settled, h)
fault_of_closing a b Memory settled h = tt

-- and of what is made of one tree
pub fault_of_only : (op : UnaryOp) (a : Tree Rule) (fault : PlanFault) → IsFaultOf a fault
    → IsFaultOf (Unary op a) fault
fault_of_only op a (Settle passed at) h = h
fault_of_only op a Memory h = tt

-- a rule settles or not
rule_settles : (rule : IcalRule) → (o : Result Settled Unsettled) × IsSettling rule SETTLE_LIMIT o
    → AreSettled (Ruled (Ical rule)) ⊎ ((u : Unsettled) × IsFirstUnsettled (Ruled (Ical rule)) u)
rule_settles rule (Ok settled, h) = inl (settled, h)
rule_settles rule (Err u, h) = inr (u, h)

both_settle : (a b : Tree Rule) → AreSettled a ⊎ ((u : Unsettled) × IsFirstUnsettled a u)
    → AreSettled b ⊎ ((u : Unsettled) × IsFirstUnsettled b u) → (AreSettled a × AreSettled b)
    ⊎ ((u : Unsettled) × (IsFirstUnsettled a u ⊎ (AreSettled a × IsFirstUnsettled b u)))
both_settle a b (inr first) k = inr (first.0, inl first.1)
both_settle a b (inl h) (inr second) = inr (second.0, inr (h, second.1))
both_settle a b (inl h) (inl k) = inl (h, k)

pub trees_settle_or_not : OutcomesExist → TreesSettleOrNot
trees_settle_or_not exist Empty h = inl tt
trees_settle_or_not exist (Spanned bounds low high) h = inl tt
trees_settle_or_not exist (Ruled (Listed stamps)) h = inl tt
trees_settle_or_not exist (Ruled (Field rule)) h = inl tt
trees_settle_or_not exist (Ruled (Ical rule)) h =
    rule_settles rule (exist rule SETTLE_LIMIT h.0.checked h.2 (lit≤ tt))
trees_settle_or_not exist (Joined op a b) h =
    both_settle a b (trees_settle_or_not exist a h.0) (trees_settle_or_not exist b h.1)
trees_settle_or_not exist (Pairs a b) h =
    both_settle a b (trees_settle_or_not exist a h.0) (trees_settle_or_not exist b h.1)
trees_settle_or_not exist (Unary op a) h = trees_settle_or_not exist a h

pub settled_have_none : OutcomesAreOne → SettledHaveNone
settled_have_none one Empty u h k = k
settled_have_none one (Spanned bounds low high) u h k = k
settled_have_none one (Ruled (Listed stamps)) u h k = k
settled_have_none one (Ruled (Field rule)) u h k = k
settled_have_none one (Ruled (Ical rule)) u h k = let both : Ok h.0 ≡ Err u =
    one rule SETTLE_LIMIT (Ok h.0) (Err u) h.1 k in absurd cc
settled_have_none one (Joined op a b) u h (inl k) = settled_have_none one a u h.0 k
settled_have_none one (Joined op a b) u h (inr k) = settled_have_none one b u h.1 k.1
settled_have_none one (Pairs a b) u h (inl k) = settled_have_none one a u h.0 k
settled_have_none one (Pairs a b) u h (inr k) = settled_have_none one b u h.1 k.1
settled_have_none one (Unary op a) u h k = settled_have_none one a u h k

pub first_unsettled_is_one : OutcomesAreOne → FirstUnsettledIsOne
first_unsettled_is_one one Empty u v h k = absurd h
first_unsettled_is_one one (Spanned bounds low high) u v h k = absurd h
first_unsettled_is_one one (Ruled (Listed stamps)) u v h k = absurd h
first_unsettled_is_one one (Ruled (Field rule)) u v h k = absurd h
first_unsettled_is_one one (Ruled (Ical rule)) u v h k = let both : Err u ≡ Err v =
    one rule SETTLE_LIMIT (Err u) (Err v) h k in cc
first_unsettled_is_one one (Joined op a b) u v (inl h) (inl k) =
    first_unsettled_is_one one a u v h k
first_unsettled_is_one one (Joined op a b) u v (inl h) (inr k) =
    absurd (settled_have_none one a u k.0 h)
first_unsettled_is_one one (Joined op a b) u v (inr h) (inl k) =
    absurd (settled_have_none one a v h.0 k)
first_unsettled_is_one one (Joined op a b) u v (inr h) (inr k) =
    first_unsettled_is_one one b u v h.1 k.1
first_unsettled_is_one one (Pairs a b) u v (inl h) (inl k) = first_unsettled_is_one one a u v h k
first_unsettled_is_one one (Pairs a b) u v (inl h) (inr k) =
    absurd (settled_have_none one a u k.0 h)
first_unsettled_is_one one (Pairs a b) u v (inr h) (inl k) =
    absurd (settled_have_none one a v h.0 k)
first_unsettled_is_one one (Pairs a b) u v (inr h) (inr k) =
    first_unsettled_is_one one b u v h.1 k.1
first_unsettled_is_one one (Unary op a) u v h k = first_unsettled_is_one one a u v h k

-- the candidate that was passed last lies in the working range
cut_off_working : (rule : IcalRule) (count : Option ℤ) (u : Unsettled)
    → IsSettlingBy rule count SETTLE_LIMIT (Err u) → IsWorkingMoment u.at.0
cut_off_working rule None u h = absurd cc
cut_off_working rule (Some count) u h = h.candidate.working

pub unsettled_are_working : UnsettledAreWorking
unsettled_are_working Empty u h = absurd h
unsettled_are_working (Spanned bounds low high) u h = absurd h
unsettled_are_working (Ruled (Listed stamps)) u h = absurd h
unsettled_are_working (Ruled (Field rule)) u h = absurd h
unsettled_are_working (Ruled (Ical rule)) u h = cut_off_working rule rule.count u h
unsettled_are_working (Joined op a b) u (inl h) = unsettled_are_working a u h
unsettled_are_working (Joined op a b) u (inr h) = unsettled_are_working b u h.1
unsettled_are_working (Pairs a b) u (inl h) = unsettled_are_working a u h
unsettled_are_working (Pairs a b) u (inr h) = unsettled_are_working b u h.1
unsettled_are_working (Unary op a) u h = unsettled_are_working a u h
