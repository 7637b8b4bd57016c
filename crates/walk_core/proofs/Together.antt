-- What calls at both ends gave, together.
use Rattle.std.proofs.Common.{◌≡◌, sym, subst, List, [], ◌∷◌, ◌++◌, reverse, Option, Some, None, Result, Ok, Err}
use Rattle.std.proofs.lemmas.List.{append_assoc, append-nil, reverse-append}
use Rattle.moment_core.specs.declared.line.Dir.{Dir}
use Rattle.moment_core.specs.declared.line.Dir.TheVariants.{Fore, Back}
use Rattle.moment_core.specs.declared.line.Window.{Window}
use Rattle.span_core.specs.declared.answers.Stop.{Stop}
use Rattle.span_core.specs.declared.bounds.Run.{Run}
use Rattle.stored_pair.specs.Meanings.{Meaning}
use Rattle.expr_tree.specs.Tree.{Tree}
use Rattle.walk_core.specs.Both.{AreCalls, AreLeftIn, Call, CallsShare, Takes, given_at, given_by, meant_of_items}
use Rattle.walk_core.specs.Walks.{AreItemsOf}
use Rattle.walk_core.specs.declared.both.Items.{Items}

-- nothing taken
same_left : {L : Type 0} (s t : Items L) (runs : List Run) → meant_of_items t ≡ meant_of_items s
    → t.left ≡ s.left → AreLeftIn t runs → AreLeftIn s runs
same_left s t runs same left rest =
    let T : Tree Meaning → Type 0 = λ x. AreItemsOf x t.left Fore runs in
    let W : Window → Type 0 = λ x. AreItemsOf (meant_of_items s) x Fore runs in
    subst W left (subst T same rest)

-- the runs round what is left, with those that one call gave
taken : {L : Type 0} (s t : Items L) (dir : Dir) (gave : Option (Result Run Stop)) (runs : List Run)
    → Takes dir s gave t → AreLeftIn t runs → AreLeftIn s (given_at Fore dir gave ++ runs
    ++ reverse (given_at Back dir gave))
taken s t Fore None runs takes rest = subst (λ x. AreLeftIn s x) (sym (append-nil runs))
    (same_left s t runs takes.0 takes.2.0 rest)
taken s t Back None runs takes rest = subst (λ x. AreLeftIn s x) (sym (append-nil runs))
    (same_left s t runs takes.0 takes.2.0 rest)
taken s t Fore (Some (Err stop)) runs takes rest = subst (λ x. AreLeftIn s x)
    (sym (append-nil runs)) (same_left s t runs takes.0 takes.2.2 rest)
taken s t Back (Some (Err stop)) runs takes rest = subst (λ x. AreLeftIn s x)
    (sym (append-nil runs)) (same_left s t runs takes.0 takes.2.2 rest)
taken s t Fore (Some (Ok run)) runs takes rest = subst (λ x. AreLeftIn s (run ∷ x))
    (sym (append-nil runs)) (takes.2.2 runs rest)
taken s t Back (Some (Ok run)) runs takes rest = takes.2.2 runs rest

pub all_taken : {L : Type 0} (s t : Items L) (calls : List (Call L)) → AreCalls s calls t
    → CallsShare s calls t
all_taken s t [] same runs rest =
    subst (λ x. AreLeftIn s x) (sym (append-nil runs)) (subst (λ x. AreLeftIn x runs) (sym same)
    rest)
all_taken s t (call ∷ calls) (first, others) runs rest =
    let front : List Run = given_by Fore calls in
    let back : List Run = given_by Back calls in
    let F : List Run = given_at Fore call.end call.gave in
    let B : List Run = given_at Back call.end call.gave in
    let all : F ++ (front ++ runs ++ reverse back) ++ reverse B ≡ (F ++ front) ++ runs
    ++ reverse (B ++ back) = simp (append_assoc, reverse-append) in
    subst (λ x. AreLeftIn s x) all
    (taken s call.left call.end call.gave (front ++ runs ++ reverse back) first
    (all_taken call.left t calls others runs rest))
