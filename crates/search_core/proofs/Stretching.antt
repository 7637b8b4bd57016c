-- A stop is due over a stretch just where it is due at a position of it.
use Rattle.std.proofs.Common.{◌↔◌, inl, inr, arith, ℕ, ◌+◌, ℤ, ◌≤ℤ◌}
use Rattle.std.proofs.lemmas.Int.{ints}
use Rattle.span_core.specs.declared.answers.Stop.{Stop}
use Rattle.stored_pair.specs.Meanings.{Meaning}
use Rattle.expr_tree.specs.Members.{is_member}
use Rattle.expr_tree.specs.Sorts.{nodes_of}
use Rattle.expr_tree.specs.Tree.{Tree, Empty, Spanned, Ruled, Joined, Pairs, Unary}
use Rattle.search_core.specs.Due.{IsDueAt}
use Rattle.search_core.specs.LookingBack.{pairs_from}
use Rattle.search_core.specs.Stretches.{IsDueIn}
use Rattle.search_core.specs.Unary.{looks_from, looks_to}
use Rattle.search_core.proofs.Latest.{meets_back, pairs-grows, pairs-most}
use Rattle.search_core.proofs.Unary.{looks-in_order, looks-meet, looks_from-grows, looks_to-grows}

-- due at some position from a to b
abbrev pub IsDueSome : Tree Meaning → ℕ → ℕ → Stop → ℤ → ℤ → Type 0
IsDueSome t n budget s a b = (q : ℤ) × (a ≤ℤ q) × (q ≤ℤ b) × IsDueAt t n budget s q

-- from a stretch to a position
shown : (t : Tree Meaning) (n budget : ℕ) (s : Stop) (a b : ℤ) → a ≤ℤ b → IsDueIn t n budget s a b
    → IsDueSome t n budget s a b
shown Empty n budget s a b order d = absurd d
shown (Spanned bounds x y) n budget s a b order d = absurd d
shown (Ruled rule) n budget s a b order d = absurd d
shown (Joined op x y) n budget s a b order d = elim d [
  | inl one ↦ let r = shown x (n + 1) budget s a b order one in (r.0, r.1, r.2, inl r.3)
  | inr other ↦ let r = shown y (n + 1 + nodes_of x) budget s a b order other in (
    r.0,
    r.1,
    r.2,
    inr r.3,
  )
]
shown (Pairs x y) n budget s a b order d =
    let e = pairs_from (is_member x) (is_member y) a in
    let most = pairs-most (is_member x) (is_member y) in
    let before = most a in
    elim d [
      | inl own ↦ (own.1, own.2, own.3, inl (own.0, own.4))
      | inr inner ↦ elim inner [
        | inl one ↦
            let r = shown x (n + 1) budget s e b (omega (arith, ints)) one in
            let q =
            meets_back (pairs_from (is_member x) (is_member y)) most a b r.0 order r.1 r.2 in
            (q.0, q.1, q.2, inr (r.0, q.3, q.4, inl r.3))
        | inr other ↦
            let r = shown y (n + 1 + nodes_of x) budget s e b (omega (arith, ints)) other in
            let q =
            meets_back (pairs_from (is_member x) (is_member y)) most a b r.0 order r.1 r.2 in
            (q.0, q.1, q.2, inr (r.0, q.3, q.4, inr r.3))
      ]
    ]
shown (Unary op x) n budget s a b order d = elim d [
  | inl own ↦ (own.2, own.3, own.4, inl (own.0, own.1, own.5))
  | inr inner ↦
      let r =
      shown x (n + 1) budget s (looks_from op (is_member x) a) (looks_to op b)
      (looks-in_order op (is_member x) a b order) inner in
      let q = looks-meet op (is_member x) a b r.0 order r.1 r.2 in
      (q.0, q.1, q.2, inr (r.0, q.3, q.4, r.3))
]

-- and back
found : (t : Tree Meaning) (n budget : ℕ) (s : Stop) (a b q : ℤ) → a ≤ℤ q → q ≤ℤ b
    → IsDueAt t n budget s q → IsDueIn t n budget s a b
found Empty n budget s a b q from within d = absurd d
found (Spanned bounds x y) n budget s a b q from within d = absurd d
found (Ruled rule) n budget s a b q from within d = absurd d
found (Joined op x y) n budget s a b q from within d = elim d [
  | inl one ↦ inl (found x (n + 1) budget s a b q from within one)
  | inr other ↦ inr (found y (n + 1 + nodes_of x) budget s a b q from within other)
]
found (Pairs x y) n budget s a b q from within d = elim d [
  | inl own ↦ inl (own.0, q, from, within, own.1)
  | inr inner ↦
      let e = pairs_from (is_member x) (is_member y) a in
      let r : ℤ = inner.0 in
      let low : pairs_from (is_member x) (is_member y) q ≤ℤ r = inner.1 in
      let high : r ≤ℤ q = inner.2 in
      let grows = pairs-grows (is_member x) (is_member y) a q from in
      inr (elim inner.3 [
        | inl one ↦ inl (found x (n + 1) budget s e b r (omega (arith, ints)) (omega (arith, ints))
            one)
        | inr other ↦ inr (found y (n + 1 + nodes_of x) budget s e b r (omega (arith, ints))
            (omega (arith, ints)) other)
      ])
]
found (Unary op x) n budget s a b q from within d = elim d [
  | inl own ↦ inl (own.0, own.1, q, from, within, own.2)
  | inr inner ↦
      let r : ℤ = inner.0 in
      let low : looks_from op (is_member x) q ≤ℤ r = inner.1 in
      let high : r ≤ℤ looks_to op q = inner.2 in
      let first = looks_from-grows op (is_member x) a q from in
      let last = looks_to-grows op q b within in
      inr (found x (n + 1) budget s (looks_from op (is_member x) a) (looks_to op b) r
      (omega (arith, ints)) (omega (arith, ints)) inner.3)
]

pub due_in-is : (t : Tree Meaning) (n budget : ℕ) (s : Stop) (a b : ℤ) → a ≤ℤ b
    → IsDueIn t n budget s a b ↔ IsDueSome t n budget s a b
due_in-is t n budget s a b order =
    (shown t n budget s a b order, λ d. found t n budget s a b d.0 d.1 d.2 d.3)
