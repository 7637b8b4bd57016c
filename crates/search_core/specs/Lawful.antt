-- Rules whose members repeat as their frame says.
use Rattle.std.proofs.Props.{props}
use mathlib.Core.HLevel.{×_prop}
use Rattle.frame_core.specs.Frames.{HasPeriod, RepeatsIfFramed, HasPeriod-prop, RepeatsIfFramed-prop}
use Rattle.moment_core.specs.Sets.{moments_in}
use Rattle.stored_pair.specs.Meanings.{Meaning}
use Rattle.expr_tree.specs.Tree.{Tree, Empty, Spanned, Ruled, Joined, Pairs, Unary}

pub record IsLawful (rule : Meaning) : Type 0 where
  pub period : HasPeriod rule.frame
  pub repeats : RepeatsIfFramed (moments_in rule.member) rule.frame

-- each rule of the tree is lawful
abbrev pub AreLawful : Tree Meaning → Type 0
AreLawful Empty = Unit {0}
AreLawful (Spanned bounds low high) = Unit {0}
AreLawful (Ruled rule) = IsLawful rule
AreLawful (Joined op a b) = AreLawful a × AreLawful b
AreLawful (Pairs a b) = AreLawful a × AreLawful b
AreLawful (Unary op a) = AreLawful a

-- a tree is lawful in one way at most, so that a tree made ready can hold that it is
IsLawful-prop : (rule : Meaning) → IsProp (IsLawful rule)
IsLawful-prop rule x y = λ i. record {
  period = HasPeriod-prop rule.frame x.period y.period i;
  repeats = RepeatsIfFramed-prop (moments_in rule.member) rule.frame x.repeats y.repeats i;
}

pub AreLawful-prop : (t : Tree Meaning) → IsProp (AreLawful t)
AreLawful-prop Empty = hlevel props
AreLawful-prop (Spanned bounds low high) = hlevel props
AreLawful-prop (Ruled rule) = IsLawful-prop rule
AreLawful-prop (Joined op a b) = ×_prop (AreLawful-prop a) (AreLawful-prop b)
AreLawful-prop (Pairs a b) = ×_prop (AreLawful-prop a) (AreLawful-prop b)
AreLawful-prop (Unary op a) = AreLawful-prop a
