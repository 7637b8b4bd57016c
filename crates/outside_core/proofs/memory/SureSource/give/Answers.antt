use Rattle.std.proofs.Common.{◌≡◌, ◌+◌, ◌-◌, ◌++◌, ℕ, List, take, drop, length, arith, sym, ◌∙◌, ap, min, take_all}
use Rattle.std.proofs.lemmas.List.{take-append-drop, drop-drop}
use Rattle.std.proofs.lemmas.Grind.{common_steps}
use Rattle.outside_core.proofs.memory.SureSource.give.Goals as goal

front : (copied behind : List ℕ) (n : ℕ) → length copied ≡ n → take n (copied ++ behind) ≡ copied
front copied behind n same = grind (arith, common_steps)

-- the first n bytes from `at` on, copied to the front of a buffer, and those behind them
given : (xs read copied behind : List ℕ) (at n room : ℕ) → read ≡ xs → n
    ≡ min (length (take (length read - at) (drop at read))) room → copied
    ≡ take n (take (length read - at) (drop at read)) → drop at xs ≡ take n (copied ++ behind)
    ++ drop (at + n) xs
given xs read copied behind at n room same count copy =
    let from_read : copied ≡ take n (drop at read) = copy ∙ ap (take n) (take_all (length read - at) (drop at read) (grind (arith, common_steps))) in
    let size : length copied ≡ n = ap length copy ∙ grind (arith, common_steps) in
    let from_all : copied ≡ take n (drop at xs) = from_read ∙ ap (λ z. take n (drop at z)) same in
    sym (take-append-drop n (drop at xs))
    ∙ ap (λ z. take n (drop at xs) ++ z) (drop-drop n at xs)
    ∙ ap (λ z. z ++ drop (at + n) xs) (sym (front copied behind n size ∙ from_all))

pub returns-clause-bytes : goal.returns-clause-bytes
returns-clause-bytes c = sym c.self.view_is ∙ given _ _ _ _ _ _ _ c.deref.ensures.value
    c.min-n.ensures c.copy_from_slice.ensures.after
