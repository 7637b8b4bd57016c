-- Reading operands, and moments, one after the other, as a loop does.
use Rattle.std.proofs.Common.{◌≡◌, ℕ, zero, suc, ◌-◌, ◌≤◌, ◌<◌, true, false, List, [], ◌∷◌, ◌++◌, length, drop, Option, Some, refl, sym, ap, ◌∙◌, arith}
use Rattle.std.proofs.lemmas.List.{append-nil}
use Rattle.moment_core.specs.declared.joining.Op.{Op}
use Rattle.moment_core.specs.Texts.{◌>>=◌}
use Rattle.expr_tokens.specs.Plain.{Token}
use Rattle.expr_tokens.specs.Plain as tokens
use Rattle.expr_grammar.specs.declared.fault.ParseFault.{ParseFault}
use Rattle.expr_grammar.specs.declared.fault.ParseFault.TheVariants as faults
use Rattle.expr_grammar.specs.declared.syntax.BinaryOp.TheVariants.{Infix}
use Rattle.moment_core.specs.declared.line.Stamp.{Stamp}
use Rattle.expr_grammar.specs.Form.{Form, Binary}
use Rattle.expr_grammar.specs.Parsing.{Read, Fails, stands, chain_from, chain_at, moments_end_at}

-- what is left of a loop over operands gives the whole
pub record GoesOn (operand : List Token → Read) (op : Op) (left : Form) (rest : List Token)
    (total : Read) : Type 0 where
  pub most : ℕ
  pub enough : length rest ≤ most
  pub so_far : chain_from operand op most left rest ≡ total

module _ (operand : List Token → Read) (op : Op) where
  pub fails_first : (e : ParseFault) (ts : List Token) → Fails e (operand ts)
      → Fails e (chain_at operand op ts)
  unfolding chain_at
  fails_first faults.Memory ts h = tt
  fails_first faults.Syntax ts h = rw h refl

  pub starts : (ts : List Token) (left : Form) (rest : List Token) → operand ts ≡ Some (left, rest)
      → GoesOn operand op left rest (chain_at operand op ts)
  unfolding chain_at
  starts ts left rest h = record { most = length rest; enough = omega arith; so_far = rw h refl }

  fails_from : (e : ParseFault) (n : ℕ) (left : Form) (rest : List Token) (total : Read)
      → stands op rest ≡ true → 0 < length rest → length rest ≤ n → Fails e (operand (drop 1 rest))
      → chain_from operand op n left rest ≡ total → Fails e total
  unfolding chain_from
  fails_from faults.Memory n left rest total next some enough h so_far = tt
  fails_from faults.Syntax zero left rest total next some enough h so_far = absurd (omega arith)
  fails_from faults.Syntax (suc n) left rest total next some enough h so_far = sym so_far
      ∙ rw (next, h) refl

  pub fails_later : (e : ParseFault) (left : Form) (rest : List Token) (total : Read)
      → stands op rest ≡ true → 0 < length rest → Fails e (operand (drop 1 rest))
      → GoesOn operand op left rest total → Fails e total
  fails_later e left rest total next some h on = fails_from e on.most left rest total next some
      on.enough h on.so_far

  goes_from : (n : ℕ) (left : Form) (rest : List Token) (right : Form) (after : List Token)
      (total : Read) → stands op rest ≡ true → 0 < length rest → length rest ≤ n
      → operand (drop 1 rest) ≡ Some (right, after)
      → length after ≤ length rest - 1 → chain_from operand op n left rest ≡ total
      → GoesOn operand op (Binary (Infix op) left right) after total
  unfolding chain_from
  goes_from zero left rest right after total next some enough h shorter so_far =
      absurd (omega arith)
  goes_from (suc n) left rest right after total next some enough h shorter so_far =
      let one : chain_from operand op (suc n) left rest ≡ chain_from operand op n
      (Binary (Infix op) left right) after = rw (next, h) refl in
      record { most = n; enough = omega arith; so_far = sym one ∙ so_far }

  pub goes_on : (left : Form) (rest : List Token) (right : Form) (after : List Token) (total : Read)
      → stands op rest ≡ true → 0 < length rest → operand (drop 1 rest) ≡ Some (right, after)
      → length after ≤ length rest - 1 → GoesOn operand op left rest total
      → GoesOn operand op (Binary (Infix op) left right) after total
  goes_on left rest right after total next some h shorter on = goes_from on.most left rest right
      after total next some on.enough h shorter on.so_far

  ends_from : (n : ℕ) (left : Form) (rest : List Token) (total : Read) → stands op rest ≡ false
      → chain_from operand op n left rest ≡ total → total ≡ Some (left, rest)
  unfolding chain_from
  ends_from zero left rest total next so_far = sym so_far
  ends_from (suc n) left rest total next so_far = sym so_far ∙ rw next refl

  pub ends : (left : Form) (rest : List Token) (total : Read) → stands op rest ≡ false
      → GoesOn operand op left rest total → total ≡ Some (left, rest)
  ends left rest total next on = ends_from on.most left rest total next on.so_far

-- the moments that were read before, and those that are still read
abbrev pub with_front : List (Option Stamp) → Option (List (Option Stamp) × List Token)
    → Option (List (Option Stamp) × List Token)
with_front front read = read >>= λ ms. Some (front ++ ms.0, ms.1)

pub with_front-end : (front : List (Option Stamp)) (ts : List Token)
    → with_front front (moments_end_at [] ts) ≡ moments_end_at front ts
unfolding moments_end_at
with_front-end front (tokens.RightBrace ∷ ts) = ap (λ (ms : List (Option Stamp)). Some (ms, ts))
    (append-nil front)
with_front-end front ts = refl
