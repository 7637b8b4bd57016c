-- A tree that can be made ready means one that may be searched.
use Rattle.std.proofs.Common.{◌≡◌, ◌⊎◌, refl, arith, inl, inr, ◌≤◌, Result, Ok, Err, IsOk}
use Rattle.std.proofs.lemmas.Int.{ints}
use Rattle.stored_pair.specs.Meanings.{Entries}
use Rattle.expr_tree.specs.Laws.{SortedAreSmall, SortedAreSound, SortedStayInReach}
use Rattle.expr_tree.specs.Sorts.{node_limit, nodes_of, sort_of_tree}
use Rattle.expr_tree.specs.Tree.{Rule, Tree, Empty, Spanned, Ruled, Joined, Pairs, Unary, meant_of}
use Rattle.search_core.specs.Lawful.{AreLawful}
use Rattle.lowered_tree.specs.Laws.{WellFormedAreLawful}
use Rattle.cert_audit.specs.Lowered.{CanBeReady, IsSorted, JoinsSorted}
use Rattle.cert_audit.specs.Searchable.{IsSearchable}

is_ok-is : {A E : Type 0} (r : Result A E) → IsOk r → (v : A) × (r ≡ Ok v)
is_ok-is (Ok v) h = (v, refl)
is_ok-is (Err e) h = absurd cc

module _ (entries : Entries) (lawful : WellFormedAreLawful) (sound : SortedAreSound)
    (reach : SortedStayInReach) (small : SortedAreSmall) where
  sorted_searchable : (t : Tree Rule) → AreLawful (meant_of entries t) → IsSorted t
      → IsSearchable (meant_of entries t)
  sorted_searchable t law sorted =
      let s = is_ok-is (sort_of_tree t) sorted in
      record {
        lawful = law;
        sound = sound entries t s.0 s.1;
        reach = reach entries t s.0 s.1;
        small =
            (let few : nodes_of (meant_of entries t) ≤ node_limit = small entries t s.0 s.1 in
            omega arith);
      }

  joins_searchable : (t : Tree Rule) → AreLawful (meant_of entries t) → JoinsSorted t
      → IsSearchable (meant_of entries t)
  joins_searchable (Joined op a b) law both =
      let s = is_ok-is (sort_of_tree a) both.0 in
      let r = is_ok-is (sort_of_tree b) both.1 in
      let near = reach entries a s.0 s.1 in
      let other = reach entries b r.0 r.1 in
      record {
        lawful = law;
        sound = (sound entries a s.0 s.1, sound entries b r.0 r.1);
        reach = omega (arith, ints, near, other);
        small = (let few : nodes_of (meant_of entries a) ≤ node_limit = small entries a s.0 s.1 in
            let less : nodes_of (meant_of entries b) ≤ node_limit =
            small entries b r.0 r.1 in omega arith);
      }
  joins_searchable Empty law both = absurd both
  joins_searchable (Spanned bounds low high) law both = absurd both
  joins_searchable (Ruled rule) law both = absurd both
  joins_searchable (Pairs a b) law both = absurd both
  joins_searchable (Unary op a) law both = absurd both

  searchable_by : (t : Tree Rule) → AreLawful (meant_of entries t) → IsSorted t ⊎ JoinsSorted t
      → IsSearchable (meant_of entries t)
  searchable_by t law (inl sorted) = sorted_searchable t law sorted
  searchable_by t law (inr joins) = joins_searchable t law joins

  pub can_be_searched : (t : Tree Rule) → CanBeReady t → IsSearchable (meant_of entries t)
  can_be_searched t can = searchable_by t (lawful entries t can.well_formed) can.sorted
