use Rattle.std.proofs.Common.{List, ℕ}
use Rattle.std.specs.Fmt.{signed_decimal}
use Rattle.span_core.specs.declared.answers.Token.{Token}
use Rattle.token_text.specs.Texts.{begun_text, dir_text, with_colon}
use Rattle.token_text.proofs.Numerals.{begun_lacks, dir_lacks, fit_near, number_lacks}
use Rattle.token_text.proofs.reading.pieces.Goals as goal

abbrev behind_place : Token → List ℕ
behind_place t = with_colon (begun_text t.begun) (signed_decimal t.end.0)

abbrev behind_dir : Token → List ℕ
behind_dir t = with_colon (signed_decimal t.place.0) (behind_place t)

pub returns-in_err-place : goal.returns-in_err-place
returns-in_err-place c = λ t fit is.
    let near = fit_near t fit in
    let first = c.in_ok-dir.ensures (dir_text t.dir) (behind_dir t) (dir_lacks t.dir) is in
    absurd (c.in_err-place.ensures (signed_decimal t.place.0) (behind_place t)
    (number_lacks t.place near.0) first.1)

pub returns-in_err-begun : goal.returns-in_err-begun
returns-in_err-begun c = λ t fit is.
    let near = fit_near t fit in
    let first = c.in_ok-dir.ensures (dir_text t.dir) (behind_dir t) (dir_lacks t.dir) is in
    let second = c.in_ok-place.ensures (signed_decimal t.place.0) (behind_place t)
    (number_lacks t.place near.0) first.1 in
    absurd (c.in_err-begun.ensures (begun_text t.begun) (signed_decimal t.end.0)
    (begun_lacks t.begun near.2) second.1)

pub returns : goal.returns
returns c = λ t fit is.
    let near = fit_near t fit in
    let first = c.in_ok-dir.ensures (dir_text t.dir) (behind_dir t) (dir_lacks t.dir) is in
    let second = c.in_ok-place.ensures (signed_decimal t.place.0) (behind_place t)
    (number_lacks t.place near.0) first.1 in
    let third = c.in_ok-begun.ensures (begun_text t.begun) (signed_decimal t.end.0)
    (begun_lacks t.begun near.2) second.1 in
    record { dir = first.0; place = second.0; begun = third.0; end = third.1 }
