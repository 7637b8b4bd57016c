-- What those who build sieves and search them may rely on.
use Rattle.std.specs.Prelude.{◌≡◌, ◌<◌, ℕ, ◌*◌, ◌||◌, ◌==◌, true, List, length, [], ◌∷◌, ℤ, pos, ◌+ℤ◌, ◌≤ℤ◌}
use Rattle.std.specs.Int.{IsInRange, bit_at}
use Rattle.moment_core.specs.Units.{units_of}
use Rattle.moment_core.specs.declared.line.TheConstants.{G}
use Rattle.sieve_core.specs.Bits.{has_bit, with_bit}
use Rattle.sieve_core.specs.Members.{has, is_candidate, meets_rule}
use Rattle.sieve_core.specs.Sieves.{IsSieve}
use Rattle.sieve_core.specs.declared.tables.Sieve.{Sieve}

-- m times 400 years that are a whole number of intervals on, the rule is met alike
abbrev pub RulesRepeat : Type 0
RulesRepeat =
    (s : Sieve) (t : ℤ) (m j : ℕ) → IsSieve s → IsInRange 1 7 s.days.first
    → m * units_of s.unit ≡ j * s.interval → meets_rule s (t +ℤ pos (m * G)) ≡ meets_rule s t

abbrev pub MembersAreCandidates : Type 0
MembersAreCandidates = (s : Sieve) (t : ℤ) → has s t ≡ true → is_candidate s t ≡ true

-- no candidate lies outside the sieve's ends
abbrev pub CandidatesLieBetween : Type 0
CandidatesLieBetween =
    (s : Sieve) (t : ℤ) → is_candidate s t ≡ true → (s.first.0 ≤ℤ t) × (t ≤ℤ s.last.0)

-- and between them the rule alone decides
abbrev pub RulesDecideBetween : Type 0
RulesDecideBetween = (s : Sieve) (t : ℤ) → s.first.0 ≤ℤ t → t ≤ℤ s.last.0 → has s t ≡ meets_rule s t

-- the bits of one word
abbrev pub WordsHaveBits : Type 0
WordsHaveBits = (word i : ℕ) → i < 64 → has_bit (word ∷ []) i ≡ (bit_at word i == 1)

-- setting a bit leaves every other as it was
abbrev pub SettingKeepsOthers : Type 0
SettingKeepsOthers =
    (words : List ℕ) (i j : ℕ) → i < 64 * length words
    → has_bit (with_bit words i) j ≡ (has_bit words j || (j == i))
