-- The answers for one set and for two tell that for what is made of them.
use Rattle.std.proofs.Common.{◌≡◌, ap, refl, inl, inr, arith, ℕ, ◌+◌, ℤ, ◌-ℤ◌, ◌+ℤ◌, pos, Bool, true, false, not, ◌&&◌, ◌||◌, Result, Ok, Err}
use Rattle.std.proofs.lemmas.Int.{ints}
use Rattle.moment_core.specs.Line.{is_moment, position_of}
use Rattle.moment_core.specs.declared.joining.Op.{Op}
use Rattle.moment_core.specs.declared.joining.Op.TheVariants.{Union, Meet, Minus}
use Rattle.moment_core.specs.declared.joining.UnaryOp.TheVariants.{Not, Starts, Ends, Shift}
use Rattle.span_core.specs.declared.answers.Stop.{Stop}
use Rattle.stored_pair.specs.Meanings.{Meaning}
use Rattle.expr_tree.specs.Members.{is_member}
use Rattle.expr_tree.specs.Sorts.{nodes_of}
use Rattle.expr_tree.specs.Tree.{Tree, Joined, Unary}
use Rattle.node_members.specs.Joining.{is_decided, negated, with_second}
use Rattle.node_members.specs.Looking.{IsAskedAt, IsAskedRound, IsBeside}

module _ (x y : Tree Meaning) (n budget : ℕ) (p : ℤ) where
  pub decided : (op : Op) (first : Result Bool Stop) → IsAskedAt x (n + 1) budget p first
      → is_decided op first ≡ true → IsAskedAt (Joined op x y) n budget p first
  decided op (Err s) h e = inl h
  decided Union (Ok true) h e = rw (← h) refl
  decided Union (Ok false) h e = absurd cc
  decided Meet (Ok true) h e = absurd cc
  decided Meet (Ok false) h e = rw (← h) refl
  decided Minus (Ok true) h e = absurd cc
  decided Minus (Ok false) h e = rw (← h) refl

  pub seconded : (op : Op) (first second : Result Bool Stop) → IsAskedAt x (n + 1) budget p first
      → is_decided op first ≡ false → IsAskedAt y (n + 1 + nodes_of x) budget p second
      → IsAskedAt (Joined op x y) n budget p (with_second op second)
  seconded Union (Err s) second h e k = absurd cc
  seconded Union (Ok true) second h e k = absurd cc
  seconded Union (Ok false) (Ok v) h e k = rw (← h) k
  seconded Union (Ok false) (Err s) h e k = inr k
  seconded Meet (Err s) second h e k = absurd cc
  seconded Meet (Ok false) second h e k = absurd cc
  seconded Meet (Ok true) (Ok v) h e k = rw (← h) k
  seconded Meet (Ok true) (Err s) h e k = inr k
  seconded Minus (Err s) second h e k = absurd cc
  seconded Minus (Ok false) second h e k = absurd cc
  seconded Minus (Ok true) (Ok v) h e k = rw (← h) (ap not k)
  seconded Minus (Ok true) (Err s) h e k = inr k

module _ (x : Tree Meaning) (n budget : ℕ) (p : ℤ) where
  pub told_not : (inner : Result Bool Stop) → IsAskedAt x (n + 1) budget p inner
      → IsAskedAt (Unary Not x) n budget p (negated inner)
  told_not (Ok v) h = ap not h
  told_not (Err s) h = inr (p, omega (arith, ints), omega (arith, ints), h)

  pub told_shift : (seconds : ℤ) (inner : Result Bool Stop)
      → IsAskedAt x (n + 1) budget (p -ℤ position_of seconds) inner
      → IsAskedAt (Unary (Shift seconds) x) n budget p inner
  told_shift seconds (Ok v) h = h
  told_shift seconds (Err s) h =
      inr (p -ℤ position_of seconds, omega (arith, ints), omega (arith, ints), h)

  pub told_starts : (inner : Result Bool Stop)
      → IsAskedRound x (n + 1) budget p (p -ℤ pos 1) (p +ℤ pos 1) inner
      → IsAskedAt (Unary Starts x) n budget p inner
  told_starts (Ok v) h = h
  told_starts (Err s) h = inr (h.0, h.1.0, h.1.1, h.2)

  pub told_ends : (inner : Result Bool Stop)
      → IsAskedRound x (n + 1) budget p (p +ℤ pos 1) (p -ℤ pos 1) inner
      → IsAskedAt (Unary Ends x) n budget p inner
  told_ends (Ok v) h = h
  told_ends (Err s) h = inr (h.0, h.1.0, h.1.1, h.2)

  -- a member of the set begins or ends a run where the position without is none
  edge_of_member : (here there other : Bool) → true ≡ here
      → not there ≡ ((here && not there) || (other && not here))
  edge_of_member here true true e = rw (← e) refl
  edge_of_member here true false e = rw (← e) refl
  edge_of_member here false true e = rw (← e) refl
  edge_of_member here false false e = rw (← e) refl

  edge_of_other : (here there other : Bool) → false ≡ here
      → there ≡ ((here && not other) || (there && not here))
  edge_of_other here true other e = rw (← e) refl
  edge_of_other here false other e = rw (← e) refl

  pub told_without : (without within : ℤ) (there : Result Bool Stop) → is_moment p ≡ true
      → true ≡ is_member x p → IsBeside p without → IsAskedAt x n budget without there
      → IsAskedRound x n budget p without within (negated there)
  told_without without within (Ok v) even here beside h =
      rw (even, h) (edge_of_member (is_member x p) (is_member x without) (is_member x within) here)
  told_without without within (Err s) even here beside h = (without, beside, h)

  pub told_within : (without within : ℤ) (there : Result Bool Stop) → is_moment p ≡ true
      → false ≡ is_member x p → IsBeside p within → IsAskedAt x n budget within there
      → IsAskedRound x n budget p without within there
  told_within without within (Ok v) even here beside h =
      rw (even, h) (edge_of_other (is_member x p) (is_member x within) (is_member x without) here)
  told_within without within (Err s) even here beside h = (within, beside, h)
