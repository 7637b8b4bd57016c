-- Tokens: the places of walks.
use Rattle.std.specs.Prelude.{ℤ, pos, ◌+ℤ◌, ◌-ℤ◌, ◌==◌, Option, None, if◌then◌else◌}
use Rattle.std.specs.Int.{int_max, int_min}
use Rattle.moment_core.specs.declared.line.Dir.{Dir}
use Rattle.moment_core.specs.declared.line.Dir.TheVariants.{Fore, Back}
use Rattle.moment_core.specs.declared.line.Pos.{Pos}
use Rattle.moment_core.specs.declared.line.Window.{Window}
use Rattle.span_core.specs.declared.answers.Stop.{Stop}
use Rattle.span_core.specs.declared.answers.Token.{Token}

-- the token of a place
abbrev pub token_at : Dir → ℤ → Option Pos → Pos → Token
token_at dir place begun end =
    record { dir = dir; place = record { 0 = place }; begun = begun; end = end }

-- the token at the first position of a window; right past its end, where the window has none
abbrev pub window_token : Window → Dir → Token
window_token w Fore = token_at Fore (int_min w.lo.0 (w.hi.0 +ℤ pos 1)) None w.hi
window_token w Back = token_at Back (int_max w.hi.0 (w.lo.0 -ℤ pos 1)) None w.lo

-- the token of a stop: there, if the search itself stopped; else it stays as it is
abbrev pub token_past : Token → Stop → Option Pos → Token
token_past t s begun = if s.node == 0 then token_at t.dir s.at.0 begun t.end else t
