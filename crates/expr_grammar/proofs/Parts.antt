-- What a reader read, from the readers that it is made of.
use Rattle.std.proofs.Common.{◌≡◌, Option, Some, None, refl, ap, subst}
use Rattle.moment_core.specs.Texts.{◌>>=◌}
use Rattle.std.proofs.lemmas.Option.{same_Some}

pub bind_some : {A B : Type 0} (o : Option A) (f : A → Option B) (y : B) → (o >>= f) ≡ Some y
    → (x : A) × (o ≡ Some x) × (f x ≡ Some y)
bind_some (Some x) f y e = (x, refl, e)
bind_some None f y e = absurd cc

-- a tuple needs its type
abbrev pub found : {A B : Type 0} → A → B → Option (A × B)
found a b = Some (a, b)

pub read_is : {A B : Type 0} (a c : A) (b d : B) → found a b ≡ Some (c, d) → (a ≡ c) × (b ≡ d)
read_is {A} {B} a c b d e =
    let x : A × B = (a, b) in
    let y : A × B = (c, d) in
    let h : x ≡ y = same_Some x y e in
    (ap (λ (p : A × B). p.0) h, ap (λ (p : A × B). p.1) h)

-- what holds of what was read, by what it is
pub along : {A B : Type 0} (P : A → B → Type 0) (a c : A) (b d : B) → found a b ≡ Some (c, d)
    → P a b → P c d
along P a c b d e h = let q = read_is a c b d e in subst (λ (y : _). P c y) q.1
    (subst (λ (x : _). P x b) q.0 h)
