-- Each text has one answer: what each phase is given and gives.
use Rattle.std.proofs.Common.{◌≡◌, ◌⊎◌, inl, inr, ℕ, ◌+◌, ◌-◌, ◌<◌, Bool, true, false, cond, List, [], ◌∷◌, map, length, Option, Some, None, Result, Ok, Err, refl, ap, subst, ◌∙◌, arith, length-append}
use Rattle.expr_text.specs.declared.fault.TheConstants.{LONGEST}
use Rattle.std.specs.List.{AllByRecursion}
use Rattle.expr_tokens.specs.Plain.{Token}
use Rattle.expr_tokens.specs.Plain as tokens
use Rattle.expr_tokens.specs.declared.token.Word.TheVariants as words
use Rattle.expr_tokens.specs.Reading.{Found, reading_of}
use Rattle.expr_grammar.specs.Form.{Form, Forms}
use Rattle.expr_grammar.specs.Form as forms
use Rattle.expr_grammar.specs.Grammar.{Spells}
use Rattle.expr_grammar.specs.Made.{IsDated, IsMade}
use Rattle.expr_grammar.specs.Laws.{MomentsAreKept, SpansAreNamed, SpellOne, SpellOrNot}
use Rattle.expr_grammar.specs.Spans.{all_names, names, second_in, spans_in}
use Rattle.span_core.specs.Laws.{HighBoundsEnd, LowBoundsBegin}
use Rattle.expr_tree.specs.Tree.{Trees}
use Rattle.rule_core.specs.declared.part.RuleFault.{RuleFault}
use Rattle.rrule_text.specs.Fault.{Fault as RruleFault}
use Rattle.rrule_text.specs.Laws.{RulesAreWritable}
use Rattle.expr_tree.specs.declared.sorting.SortFault.{SortFault}
use Rattle.expr_text.specs.Fault.{Fault}
use Rattle.expr_text.specs.Fault as faults
use Rattle.expr_text.specs.Accepted.{HasPositions, IsRead, IsSorted, IsSpelled, Spelling, held, or_nameless, or_rrule_fault, or_rule_fault, sorted, spelled, tokens_in, unless_long, unless_nameless, unless_rrule_fault, unless_rule_fault, unless_unbuilt, unsorted, unspelled, vacant, with_places}
use Rattle.expr_tree.specs.WellFormed.{AreWellFormed}
use Rattle.expr_text.specs.Calls.{calls_unbuilt}
use Rattle.phases.specs.Phases.{Anything, By, IsPhase, fails}
use Rattle.expr_text.specs.Faults.{Tokens, all_spans_of, first_nameless, first_rrule_fault, first_rule_fault, is_span_name, kinds_of, second_spans, sort_fault, span_places, spans_of}
use Rattle.expr_text.specs.Laws.{ReadingsAreUnique, ReadingsExist}
use Rattle.expr_text.specs.Phases.{AreBoth, HasSpans, IsInRange}
use Rattle.expr_text.specs.Trees.{trees_from}
use Rattle.phases.specs.Laws.{by_phase, then_phase}
use Rattle.expr_text.proofs.Moments.{all_have_spans, all_stand, made_of}
use Rattle.expr_text.proofs.Places.{long_text}
use Rattle.expr_text.proofs.Positions.{held_or_vacant, none_vacant, one_vacant}
use Rattle.expr_text.proofs.Ranges.{reading_in_range}

-- the moments that the tokens name are of the calendar range
abbrev AreInRange : Tokens → Type 0
AreInRange ts = AllByRecursion IsInRange (kinds_of ts)

record IsSpelling (s : Spelling) : Type 0 where
  in_range : AreInRange s.tokens
  spells : Spells s.forms (kinds_of s.tokens)

-- each literal names a moment, and each span has a place
record IsNamed (s : Spelling) : Type 0 where
  made : AreBoth (IsMade IsDated) s.forms
  placed : length (span_places s.tokens) ≡ length (all_spans_of s.forms)

record IsHeld (p : Forms) : Type 0 where
  made : AreBoth (IsMade IsDated) p
  spans : AreBoth HasSpans p

-- each rule by fields is one
record IsRuled (p : Forms) : Type 0 where
  made : AreBoth (IsMade IsDated) p
  spans : AreBoth HasSpans p
  ruled : first_rule_fault p ≡ None

-- and so is each text of a rule
record IsWhole (p : Forms) : Type 0 where
  made : AreBoth (IsMade IsDated) p
  spans : AreBoth HasSpans p
  ruled : first_rule_fault p ≡ None
  written : first_rrule_fault p ≡ None

-- accepted trees
pub record IsAccepted (trees : Trees) : Type 0 where
  pub well_formed : AreWellFormed trees
  pub sorted : sort_fault trees ≡ None

unless_or : {A F : Type 0} (b : Bool) (f : F) (a c : A) → cond b (Err f) (Ok a) ≡ Ok c → a ≡ c
unless_or true f a c e = absurd cc
unless_or false f a c e = cc

long_phase : IsPhase Anything (By unless_long) Anything
long_phase = by_phase Anything Anything unless_long (λ a b h e. tt)

kinds_in_range : (size : ℕ) (found : List (Token × ℕ))
    → AllByRecursion (λ (x : Token × ℕ). IsInRange x.0) found → (ts : Tokens)
    → with_places size (Ok found) ≡ Ok ts → AreInRange ts
kinds_in_range size found h ts e =
    subst AreInRange (let same : map (λ (x : Token × ℕ). (x.0, size - x.1)) found ≡ ts = cc in same)
    (mapped found h)
  where
    mapped : (found : List (Token × ℕ)) → AllByRecursion (λ (x : Token × ℕ). IsInRange x.0) found
        → AreInRange (map (λ (x : Token × ℕ). (x.0, size - x.1)) found)
    mapped [] h = tt
    mapped (x ∷ others) h = (h.0, mapped others h.1)

tokens_phase : IsPhase Anything (By tokens_in) AreInRange
tokens_phase = by_phase Anything AreInRange tokens_in
    (λ text ts h e. by_found text ts (reading_of text) refl e)
  where
    by_found : (text : List ℕ) (ts : Tokens) (found : Found) → reading_of text ≡ found
        → with_places (length text) found ≡ Ok ts → AreInRange ts
    by_found text ts (Ok found) e d = kinds_in_range (length text) found
        (reading_in_range text found e) ts d
    by_found text ts (Err left) e d = absurd cc

built_phase : IsPhase AreInRange (By unless_unbuilt) AreInRange
built_phase = by_phase AreInRange AreInRange unless_unbuilt
    (λ ts us h e. subst AreInRange (unless_or (calls_unbuilt (kinds_of ts)) faults.Unbuilt ts us e)
    h)

-- as many places of spans as spans
places_counted : (ts : Tokens) → length (span_places ts) ≡ all_names (kinds_of ts)
places_counted [] = refl
places_counted (x ∷ ts) = by_token x.0 ∙ ap (λ (n : ℕ). names x.0 + n) (places_counted ts)
  where
    by_token : (t : Token) → length (cond (is_span_name t) (x.1 ∷ span_places ts) (span_places ts))
        ≡ names t + length (span_places ts)
    by_token (tokens.Word words.Span) = omega arith
    by_token t = omega arith

spans_counted : (t : Form) → length (spans_of t) ≡ spans_in t
spans_counted forms.Empty = refl
spans_counted (forms.Listed ms) = refl
spans_counted (forms.Span low high) = refl
spans_counted (forms.Rule freq fields) = refl
spans_counted (forms.Rrule text start) = refl
spans_counted (forms.Unary op a) = spans_counted a
spans_counted (forms.Binary op a b) =
    omega (arith, length-append (spans_of a) (spans_of b), spans_counted a, spans_counted b)

second_counted : (o : Option Form) → length (second_spans o) ≡ second_in o
second_counted None = refl
second_counted (Some t) = spans_counted t

module _ (one_program : SpellOne) (decided : SpellOrNot) (kept : MomentsAreKept)
    (named_spans : SpansAreNamed)
    (begins : LowBoundsBegin) (stops : HighBoundsEnd) (writable : RulesAreWritable) where
  spelled_phase : IsPhase AreInRange IsSpelled IsSpelling
  spelled_phase =
      record { some = λ ts h. by_reading ts (decided (kinds_of ts)); one = one; gives = gives }
    where
      by_reading : (ts : Tokens) → ((p : Forms) × Spells p (kinds_of ts))
          ⊎ ((p : Forms) → Spells p (kinds_of ts) → ⊥)
          → (r : Result Spelling Fault) × IsSpelled ts r
      by_reading ts (inl x) = (Ok (record { tokens = ts; forms = x.0 }), spelled x.0 x.1)
      by_reading ts (inr none) = (Err faults.Syntax, unspelled none)

      one : (ts : Tokens) (r s : Result Spelling Fault) → IsSpelled ts r → IsSpelled ts s → r ≡ s
      one ts r s (spelled p h) (spelled q k) =
          ap (λ (x : Forms). Ok (record { tokens = ts; forms = x }))
          (one_program p q (kinds_of ts) h k)
      one ts r s (spelled p h) (unspelled none) = absurd (none p h)
      one ts r s (unspelled none) (spelled p h) = absurd (none p h)
      one ts r s (unspelled none) (unspelled also) = refl

      gives : (ts : Tokens) (s : Spelling) → AreInRange ts → IsSpelled ts (Ok s) → IsSpelling s
      gives ts s h (spelled p k) = record { in_range = h; spells = k }

  all_placed : (s : Spelling) → Spells s.forms (kinds_of s.tokens) → length (span_places s.tokens)
      ≡ length (all_spans_of s.forms)
  all_placed s h =
      omega (
        arith,
        places_counted s.tokens,
        named_spans s.forms (kinds_of s.tokens) h,
        length-append (spans_of s.forms.first) (second_spans s.forms.second),
        spans_counted
            s.forms.first,
        second_counted s.forms.second,
      )

  named_phase : IsPhase IsSpelling (By unless_nameless) IsNamed
  named_phase = by_phase IsSpelling IsNamed unless_nameless
      (λ s u h e. by_first s u (first_nameless s.tokens) refl h e)
    where
      by_first : (s u : Spelling) (o : Option ℕ) → first_nameless s.tokens ≡ o → IsSpelling s
          → or_nameless s o ≡ Ok u → IsNamed u
      by_first s u (Some byte) none h e = absurd cc
      by_first s u None none h e =
          subst IsNamed (let same : s ≡ u = cc in same)
          (record {
            made = made_of kept s.tokens s.forms h.spells h.in_range none;
            placed =
                all_placed s h.spells;
          })

  held_phase : IsPhase IsNamed HasPositions IsHeld
  held_phase = record { some = some; one = one; gives = gives }
    where
      some : (s : Spelling) → IsNamed s → (r : Result Forms Fault) × HasPositions s r
      some s h =
          let spans = all_spans_of s.forms in
          elim (held_or_vacant begins stops spans (span_places s.tokens) h.placed) [
            | inl all ↦ (Ok s.forms, held all)
            | inr f ↦ (Err (faults.Moment f.0), vacant f.0 f.1)
          ]

      one : (s : Spelling) (r t : Result Forms Fault) → HasPositions s r → HasPositions s t → r ≡ t
      one s r t (held h) (held k) = refl
      one s r t (held h) (vacant b k) =
          absurd (none_vacant (all_spans_of s.forms) (span_places s.tokens) b k h)
      one s r t (vacant b h) (held k) =
          absurd (none_vacant (all_spans_of s.forms) (span_places s.tokens) b h k)
      one s r t (vacant b h) (vacant c k) = ap (λ (n : ℕ). Err (faults.Moment n))
          (one_vacant (all_spans_of s.forms) (span_places s.tokens) b c h k)

      gives : (s : Spelling) (p : Forms) → IsNamed s → HasPositions s (Ok p) → IsHeld p
      gives s p h (held k) = record { made = h.made; spans = all_have_spans s.forms h.made k }

  ruled_phase : IsPhase IsHeld (By unless_rule_fault) IsRuled
  ruled_phase = by_phase IsHeld IsRuled unless_rule_fault
      (λ p q h e. by_first p q (first_rule_fault p) refl h e)
    where
      by_first : (p q : Forms) (o : Option RuleFault) → first_rule_fault p ≡ o → IsHeld p
          → or_rule_fault p o ≡ Ok q → IsRuled q
      by_first p q (Some fault) none h e = absurd cc
      by_first p q None none h e =
          subst IsRuled (let same : p ≡ q = cc in same)
          (record { made = h.made; spans = h.spans; ruled = none })

  written_phase : IsPhase IsRuled (By unless_rrule_fault) IsWhole
  written_phase = by_phase IsRuled IsWhole unless_rrule_fault
      (λ p q h e. by_first p q (first_rrule_fault p) refl h e)
    where
      by_first : (p q : Forms) (o : Option RruleFault) → first_rrule_fault p ≡ o → IsRuled p
          → or_rrule_fault p o ≡ Ok q → IsWhole q
      by_first p q (Some fault) none h e = absurd cc
      by_first p q None none h e =
          subst IsWhole (let same : p ≡ q = cc in same)
          (record { made = h.made; spans = h.spans; ruled = h.ruled; written = none })

  sorted_phase : IsPhase IsWhole IsSorted IsAccepted
  sorted_phase = record { some = some; one = one; gives = gives }
    where
      by_fault : (p : Forms) (trees : Trees) → trees_from p ≡ Some trees → (o : Option SortFault)
          → sort_fault trees ≡ o → (r : Result Trees Fault) × IsSorted p r
      by_fault p trees is None e = (Ok trees, sorted trees is e)
      by_fault p trees is (Some fault) e = (Err (faults.Sort fault), unsorted trees fault is e)

      some : (p : Forms) → IsWhole p → (r : Result Trees Fault) × IsSorted p r
      some p h = let x = all_stand writable p h.made h.spans h.ruled h.written in
          by_fault p x.trees x.are (sort_fault x.trees) refl

      one : (p : Forms) (r s : Result Trees Fault) → IsSorted p r → IsSorted p s → r ≡ s
      one p r s (sorted x is e) (sorted y also d) = let same : x ≡ y = cc in
          ap (λ (t : Trees). Ok t) same
      one p r s (sorted x is e) (unsorted y fault also d) = let same : x ≡ y = cc in absurd cc
      one p r s (unsorted x fault is e) (sorted y also d) = let same : x ≡ y = cc in absurd cc
      one p r s (unsorted x fault is e) (unsorted y other also d) = let same : x ≡ y = cc in
          let faults_same : fault ≡ other = cc in ap (λ (f : SortFault). Err (faults.Sort f))
          faults_same

      gives : (p : Forms) (trees : Trees) → IsWhole p → IsSorted p (Ok trees) → IsAccepted trees
      gives p trees h (sorted _ is e) =
          let x = all_stand writable p h.made h.spans h.ruled h.written in
          record {
            well_formed = subst AreWellFormed (let are = x.are in let same : x.trees
                ≡ trees = cc in same) x.well_formed;
            sorted = e;
          }

  all_phases : IsPhase Anything IsRead IsAccepted
  all_phases =
      then_phase (By unless_long) _ Anything Anything IsAccepted long_phase
      (then_phase (By tokens_in) _ Anything AreInRange IsAccepted tokens_phase
      (then_phase (By unless_unbuilt) _ AreInRange AreInRange IsAccepted built_phase
      (then_phase IsSpelled _ AreInRange IsSpelling IsAccepted spelled_phase
      (then_phase (By unless_nameless) _ IsSpelling IsNamed IsAccepted named_phase
      (then_phase HasPositions _ IsNamed IsHeld IsAccepted held_phase
      (then_phase (By unless_rule_fault) _ IsHeld IsRuled IsAccepted ruled_phase
      (then_phase (By unless_rrule_fault) IsSorted IsRuled IsWhole IsAccepted written_phase
      sorted_phase)))))))

  pub readings_exist : ReadingsExist
  readings_exist text = all_phases.some text tt

  pub readings_are_unique : ReadingsAreUnique
  readings_are_unique = all_phases.one

  pub accepted : (text : List ℕ) (trees : Trees) → IsRead text (Ok trees) → IsAccepted trees
  accepted text trees h = all_phases.gives text trees tt h

-- a long text has that fault alone
pub long_reading : (text : List ℕ) → LONGEST < length text → IsRead text (Err faults.Long)
long_reading text h = fails faults.Long (long_text text h)
