use Rattle.std.proofs.Common.{rules, arith, ◌≡◌, ◌+◌, map, length, take, drop, suc, sym, ◌∙◌, ap, refl, subst}
use Rattle.std.proofs.lemmas.List.{length-map}
use Rattle.std.proofs.Math.Seq.{take-length}
use Rattle.std.specs.String.{string_bytes}
use Rattle.query_words.specs.Reading.{FitBelow, Holds}
use Rattle.query_words.specs.Words.{bad}
use Rattle.query_words.proofs.Positions.{stands_at, unfit_first, fits_one_more}
use Rattle.query_words.proofs.settings.read_settings.Goals as goal

pub returns-then-not-set : goal.returns-then-not-set
returns-then-not-set c =
    let words = map string_bytes c.args.later.now in
    let i = c.loop-i.i in
    let stands = stands_at string_bytes c.args.later.now i c.index-later-i.result
    c.as_str.result.now c.loop-i-test.true c.index-later-i.is c.as_str.ensures.value in
    let unfit = c.set.ensures.unfit (search rules) (take i words) c.loop-i.invariant.1 in
    bad c.args.command words (i + 1) refl c.requires.built
    (unfit_first c.args.command words (take i words) (drop (suc i) words) c.as_str.result.now i
    stands.cut stands.size c.loop-i.invariant.0 unfit)

pub loop-i-preserved : goal.loop-i-preserved
loop-i-preserved c =
    let words = map string_bytes c.args.later.now in
    let i = c.loop-i.i in
    let stands = stands_at string_bytes c.args.later.now i c.index-later-i.result
    c.as_str.result.now c.loop-i-test.true c.index-later-i.is c.as_str.ensures.value in
    let set = c.set.ensures.fits (search rules) (take i words) c.loop-i.invariant.1 in (
      fits_one_more c.args.command words (take i words) (drop (suc i) words) c.as_str.result.now i
          stands.cut stands.size c.loop-i.invariant.0 set.0,
      subst (λ before. Holds before c.set.new.self) (sym stands.next) set.1,
    )

pub returns : goal.returns
returns c =
    let words = map string_bytes c.args.later.now in
    let all : c.loop-i.i ≡ length words = omega (arith, length-map c.args.later.now string_bytes) in
    let whole : take c.loop-i.i words ≡ words = ap (λ n. take n words) all ∙ take-length words in (
      subst (FitBelow c.args.command words) all c.loop-i.invariant.0,
      subst
          (λ l. Holds l c.loop-i.settings) whole c.loop-i.invariant.1,
    )
