-- The places of a token that fits lie in the calendar range.
use Rattle.moment_core.specs.Sets.{IsUpTo, range_begin}
use Rattle.std.proofs.Common.{ℤ, Bool, Option, Some, None}
use Rattle.moment_core.specs.Line.{IsCalendarPosition}
use Rattle.moment_core.specs.declared.line.Dir.{Dir}
use Rattle.moment_core.specs.declared.line.Pos.{Pos}
use Rattle.moment_core.proofs.Order.{trans_up_to}
use Rattle.span_core.specs.Tokens.{IsFit, IsPlaceFit}
use Rattle.span_core.specs.declared.answers.Token.{Token}
use Rattle.run_search.specs.Runs.{IsFirstRun}
use Rattle.walk_core.specs.Items.{begin_at}
use Rattle.walk_core.proofs.Order.{in_range-from}

-- where what is left begins, and the place, are not before the range's beginning
begins_from : (dir : Dir) (place end : ℤ) (begun : Option Pos) → IsPlaceFit dir place end begun
    → IsUpTo dir (begin_at place begun) (range_begin dir)
begins_from dir place end None fit = fit.0
begins_from dir place end (Some begun) fit = fit.0

pub place_from : (dir : Dir) (place end : ℤ) (begun : Option Pos) → IsPlaceFit dir place end begun
    → IsUpTo dir place (range_begin dir)
place_from dir place end None fit = fit.0
place_from dir place end (Some begun) fit = trans_up_to dir (range_begin dir) begun.0 place fit.0
    fit.1

module _ (set : ℤ → Bool) (t : Token) (near far : ℤ) (fit : IsFit t)
    (first : IsFirstRun set t.dir (begin_at t.place.0 t.begun) t.end.0 near far) where
  near_from : IsUpTo t.dir near (range_begin t.dir)
  near_from = trans_up_to t.dir (range_begin t.dir) (begin_at t.place.0 t.begun) near
      (begins_from t.dir t.place.0 t.end.0 t.begun fit.1) first.from

  -- nor is the end of the first run that is left
  pub far_from : IsUpTo t.dir far (range_begin t.dir)
  far_from = trans_up_to t.dir (range_begin t.dir) near far near_from first.some

  pub run_in_range : IsCalendarPosition near × IsCalendarPosition far
  run_in_range = (
    in_range-from t.dir near t.end.0 near_from (trans_up_to t.dir near far t.end.0 first.some
        first.within) fit.0,
    in_range-from t.dir far t.end.0 far_from first.within fit.0,
  )
