-- What a walk over the positions a to b may cost in calls of rules.
use Rattle.std.specs.Prelude.{ℕ, ◌+◌, ℤ, Bool}
use Rattle.moment_core.specs.declared.joining.UnaryOp.TheVariants.{During}
use Rattle.stored_pair.specs.Meanings.{Entries}
use Rattle.expr_tree.specs.Members.{is_member}
use Rattle.expr_tree.specs.Tree.{Rule, Listed, Field, Ical, Tree, Empty, Spanned, Ruled, Joined, Pairs, Unary, meant_of}
use Rattle.search_core.specs.Candidates.{candidates}
use Rattle.search_core.specs.LookingBack.{during_from, pairs_from}
use Rattle.search_core.specs.Unary.{looks_from, looks_to}

module _ (entries : Entries) where
  -- the positions of a tree as it was written
  abbrev members : Tree Rule → ℤ → Bool
  members t = is_member (meant_of entries t)

  -- a rule costs its candidates and two more calls, a list and a span nothing; what is looked back
  -- at costs as well what lies from where that leads to a
  abbrev pub steps : Tree Rule → ℤ → ℤ → ℕ
  steps Empty a b = 0
  steps (Spanned bounds low high) a b = 0
  steps (Ruled (Listed stamps)) a b = 0
  steps (Ruled (Field rule)) a b = candidates (meant_of entries (Ruled (Field rule))) a b + 2
  steps (Ruled (Ical rule)) a b = candidates (meant_of entries (Ruled (Ical rule))) a b + 2
  steps (Joined op x y) a b = steps x a b + steps y a b
  steps (Pairs x y) a b =
      steps x a b + steps y a b
      + (steps x (pairs_from (members x) (members y) a) a
      + steps y (pairs_from (members x) (members y) a) a)
  steps (Unary (During seconds) x) a b =
      steps x a b + steps x (during_from (members x) seconds a) a
  steps (Unary op x) a b = steps x (looks_from op (members x) a) (looks_to op b)
