-- The sizes of a tree: counting nodes up to a limit, and how far a sorted tree looks.
use Rattle.std.proofs.Common.{◌≡◌, ◌<◌, ℕ, pos, ◌≤ℤ◌, int_lt, Bool, true, false, not, ◌≤◌, Some, None, Result, Ok, Err, nat_le, nat_lt, if◌then◌else◌, refl, arith}
use Rattle.std.proofs.lemmas.Bool.{lt-leb, or_parts}
use Rattle.std.proofs.lemmas.Int.{ints}
use Rattle.moment_core.specs.declared.line.TheConstants.{REACH}
use Rattle.stored_pair.specs.Meanings.{Entries}
use Rattle.expr_tree.specs.Sorts.{depth_of, durations_last, judge, node_limit, nodes_of, path_limit, reach_of, reaches_badly, sort_of_tree, sort_with}
use Rattle.expr_tree.specs.Tree.{Rule, Tree, Empty, Spanned, Ruled, Joined, Pairs, Unary, meant_of}
use Rattle.expr_tree.specs.declared.sorting.Judged.{Judged}
use Rattle.expr_tree.specs.declared.sorting.Sort.{Sort}
use Rattle.expr_tree.specs.declared.sorting.SortFault.{SortFault}
use Rattle.expr_tree.specs.declared.sorting.SortFault.TheVariants as faults

pub nodes_of-positive : (t : Tree Rule) → 0 < nodes_of t
nodes_of-positive Empty = omega arith
nodes_of-positive (Spanned bounds low high) = omega arith
nodes_of-positive (Ruled rule) = omega arith
nodes_of-positive (Joined op a b) = omega arith
nodes_of-positive (Pairs a b) = omega arith
nodes_of-positive (Unary op a) = omega arith

pub depth_of-positive : (t : Tree Rule) → 0 < depth_of t
depth_of-positive Empty = omega arith
depth_of-positive (Spanned bounds low high) = omega arith
depth_of-positive (Ruled rule) = omega arith
depth_of-positive (Joined op a b) = omega arith
depth_of-positive (Pairs a b) = omega arith
depth_of-positive (Unary op a) = omega arith

-- nothing positive is within a limit of 0
pub none_within : (n limit : ℕ) → 0 < n → limit ≡ 0 → None ≡ (if nat_le n limit then Some n else
    None)
none_within n limit positive e = rw (lt-leb n limit (omega arith)) refl

-- a result past a test that would refuse
pub past_test : {A E : Type 0} (b : Bool) (fault : E) (r : Result A E) (v : A)
    → (if b then Err fault else r) ≡ Ok v → r ≡ Ok v
past_test true fault r v e = absurd cc
past_test false fault r v e = e

pub past_sizes : (t : Tree Rule) (sort : Sort) → sort_of_tree t ≡ Ok sort
    → sort_with t (judge t) ≡ Ok sort
past_sizes t sort e =
    let shallow = past_test (nat_lt node_limit (nodes_of t)) faults.Nodes
    (if nat_lt path_limit (depth_of t) then Err faults.Depth else sort_with t (judge t)) sort e in
    past_test (nat_lt path_limit (depth_of t)) faults.Depth (sort_with t (judge t)) sort shallow

abbrev pub sort_from : Tree Rule → Judged → Sort
sort_from t judged =
    record {
      kind = judged.kind;
      clock = judged.clock;
      reach = pos (reach_of t);
      depth = depth_of t;
      nodes = nodes_of t;
    }

reach-judged : (t : Tree Rule) (sort : Sort) (a : Result Judged SortFault) → sort_with t a ≡ Ok sort
    → pos (reach_of t) ≤ℤ REACH
reach-judged t sort (Err fault) e = absurd cc
reach-judged t sort (Ok judged) e = not_above (reaches_badly t) refl e
  where
    not_above : (b : Bool) → reaches_badly t ≡ b
        → (if b then Err faults.Reach else Ok (sort_from t judged)) ≡ Ok sort
        → pos (reach_of t) ≤ℤ REACH
    not_above true above e = absurd cc
    not_above false above e =
        let near : int_lt REACH (pos (reach_of t)) ≡ false =
        (or_parts (not (durations_last t)) (int_lt REACH (pos (reach_of t))) above).1 in
        grind (arith, ints)

-- what rules mean looks no farther than they do
reach-meant : (entries : Entries) (t : Tree Rule) → reach_of (meant_of entries t) ≡ reach_of t
reach-meant entries Empty = refl
reach-meant entries (Spanned bounds low high) = refl
reach-meant entries (Ruled rule) = refl
reach-meant entries (Joined op a b) = rw (reach-meant entries a, reach-meant entries b) refl
reach-meant entries (Pairs a b) = rw (reach-meant entries a, reach-meant entries b) refl
reach-meant entries (Unary op a) = rw (reach-meant entries a) refl

pub reach_of-sorted : (entries : Entries) (t : Tree Rule) (sort : Sort) → sort_of_tree t ≡ Ok sort
    → pos (reach_of (meant_of entries t)) ≤ℤ REACH
reach_of-sorted entries t sort e =
    rw (reach-meant entries t) (reach-judged t sort (judge t) (past_sizes t sort e))

-- and has as many nodes
nodes-meant : (entries : Entries) (t : Tree Rule) → nodes_of (meant_of entries t) ≡ nodes_of t
nodes-meant entries Empty = refl
nodes-meant entries (Spanned bounds low high) = refl
nodes-meant entries (Ruled rule) = refl
nodes-meant entries (Joined op a b) = rw (nodes-meant entries a, nodes-meant entries b) refl
nodes-meant entries (Pairs a b) = rw (nodes-meant entries a, nodes-meant entries b) refl
nodes-meant entries (Unary op a) = rw (nodes-meant entries a) refl

nodes_of-limit : (t : Tree Rule) (sort : Sort) → sort_of_tree t ≡ Ok sort → nodes_of t ≤ node_limit
nodes_of-limit t sort e = not_more (nat_lt node_limit (nodes_of t)) refl e
  where
    not_more : (b : Bool) → nat_lt node_limit (nodes_of t) ≡ b
        → (if b then Err faults.Nodes else if nat_lt path_limit (depth_of t) then Err faults.Depth
        else sort_with t (judge t)) ≡ Ok sort
        → nodes_of t ≤ node_limit
    not_more true more e = absurd cc
    not_more false more e = grind (arith, more)

pub nodes_of-sorted : (entries : Entries) (t : Tree Rule) (sort : Sort) → sort_of_tree t ≡ Ok sort
    → nodes_of (meant_of entries t) ≤ node_limit
nodes_of-sorted entries t sort e = rw (nodes-meant entries t) (nodes_of-limit t sort e)
