-- Chains of phases. They are over all relations, which no clause of a function can say, so they are
-- proved here.
use Rattle.std.specs.Prelude.{◌≡◌, Option, Some, None, Result, Ok, Err, IfSome}
use Rattle.std.proofs.Common.{refl, sym, ap, ◌∙◌, subst}
use Rattle.phases.specs.Phases.{By, IsPhase, Then, fails, goes_on}

-- a function is a phase
pub by_phase : {A B F : Type 0} (Given : A → Type 0) (Gives : B → Type 0) (f : A → Result B F)
    → ((a : A) (b : B) → Given a → f a ≡ Ok b → Gives b) → IsPhase Given (By f) Gives
by_phase Given Gives f gives =
    record {
      some = λ a h. (f a, refl);
      one = λ a r s e d. e ∙ sym d;
      gives = λ a b h e. gives a b h (sym e);
    }

abbrev value_or : {B F : Type 0} → B → Result B F → B
value_or b (Ok c) = c
value_or b (Err fault) = b

abbrev fault_or : {B F : Type 0} → F → Result B F → F
fault_or fault (Ok b) = fault
fault_or fault (Err other) = other

abbrev Fails : {B F : Type 0} → Result B F → Type 0
Fails (Ok b) = ⊥
Fails (Err fault) = Unit {0}

module _ {A B C F : Type 0} (P : A → Result B F → Type 0) (Q : B → Result C F → Type 0) where
  -- where the first phase passes, the next one answers
  pub passes : (a : A) (b : B) (o : Option (Result C F)) → P a (Ok b) → IfSome o (Q b)
      → IfSome o (Then P Q a)
  passes a b None p q = tt
  passes a b (Some r) p q = goes_on b r p q

  -- another first phase that answers the same
  pub instead : {D : Type 0} (R : D → Result B F → Type 0) (a : A) (d : D) (r : Result C F)
      → ((x : Result B F) → P a x → R d x) → Then P Q a r → Then R Q d r
  instead R a d r same (fails fault p) = fails fault (same (Err fault) p)
  instead R a d r same (goes_on b _ p q) = goes_on b r (same (Ok b) p) q

  module _ (Given : A → Type 0) (Between : B → Type 0) (Gives : C → Type 0)
      (first : IsPhase Given P Between) (second : IsPhase Between Q Gives) where
    some_of : (a : A) (x : Result B F) → Given a → P a x → (r : Result C F) × Then P Q a r
    some_of a (Err fault) h p = (Err fault, fails fault p)
    some_of a (Ok b) h p = let r = second.some b (first.gives a b h p) in (r.0, goes_on b r.0 p r.1)

    one_of : (a : A) (r s : Result C F) → Then P Q a r → Then P Q a s → r ≡ s
    one_of a r s (fails f p) (fails g q) =
        ap (λ (x : Result B F). Err (fault_or f x)) (first.one a (Err f) (Err g) p q)
    one_of a r s (fails f p) (goes_on b _ q k) =
        absurd (subst Fails (first.one a (Err f) (Ok b) p q) tt)
    one_of a r s (goes_on b _ p h) (fails g q) =
        absurd (subst Fails (first.one a (Err g) (Ok b) q p) tt)
    one_of a r s (goes_on b _ p h) (goes_on c _ q k) =
        let same : c ≡ b = ap (value_or c) (first.one a (Ok c) (Ok b) q p) in
        second.one b r s h (subst (λ (x : B). Q x s) same k)

    gives_of : (a : A) (c : C) → Given a → Then P Q a (Ok c) → Gives c
    gives_of a c h (goes_on b _ p q) = second.gives b c (first.gives a b h p) q

    -- two phases, one behind the other, are a phase
    pub then_phase : IsPhase Given (Then P Q) Gives
    then_phase =
        record {
          some = λ a h. let x = first.some a h in some_of a x.0 h x.1;
          one = one_of;
          gives = gives_of;
        }
