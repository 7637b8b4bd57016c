-- Steps that may fail, one after the other.
use Rattle.std.proofs.Common.{◌≡◌, Bool, false, Option, Some, None, IfSome, refl, sym, ◌∙◌}
use Rattle.moment_core.specs.Texts.{◌>>=◌}

-- what holds of what each step finds
pub IfSome-then : {A B : Type 0} (P : A → Type 0) (Q : B → Type 0) (o : Option A) (f : A → Option B)
    → IfSome o P → ((x : A) → P x → IfSome (f x) Q) → IfSome (o >>= f) Q
IfSome-then P Q None f h next = tt
IfSome-then P Q (Some x) f h next = next x h

pub IfSome-after : {A B : Type 0} (Q : B → Type 0) (o : Option A) (f : A → Option B)
    → ((x : A) → IfSome (f x) Q) → IfSome (o >>= f) Q
IfSome-after Q None f next = tt
IfSome-after Q (Some x) f next = next x

pub IfSome-at : {A : Type 0} (P : A → Type 0) (o : Option A) (x : A) → o ≡ Some x → IfSome o P → P x
IfSome-at P o x is h = rw is at h

pub some_same : {A : Type 0} (o : Option A) (x y : A) → o ≡ Some x → o ≡ Some y → x ≡ y
some_same o x y first second = IfSome-at (λ z. x ≡ z) (Some x) y (sym first ∙ second) refl

pub not_both : {A : Type 0} (o : Option A) (x : A) → o ≡ None → o ≡ Some x → ⊥
not_both o x none some = let clash : None ≡ Some x = sym none ∙ some in cc

-- there is a value, and it passes
abbrev pub passes : {A : Type 0} → (A → Bool) → Option A → Bool
passes p None = false
passes p (Some x) = p x

pub passes-then : {A B : Type 0} (p : A → Bool) (q : B → Bool) (o : Option A) (f : A → Option B)
    → ((x : A) → p x ≡ passes q (f x)) → passes p o ≡ passes q (o >>= f)
passes-then p q None f next = refl
passes-then p q (Some x) f next = next x
