use Rattle.std.proofs.Common.{◌≡◌, arith, refl, ℤ, Bool, true, false, not}
use Rattle.std.proofs.lemmas.Int.{by_lt_z, ints}
use Rattle.moment_core.specs.Sets.{ahead, IsUpTo}
use Rattle.moment_core.specs.declared.line.Dir.{Dir}
use Rattle.moment_core.specs.declared.line.Dir.TheVariants.{Fore, Back}
use Rattle.run_search.proofs.Stretching.{not_if_false}
use Rattle.run_search.proofs.finding.is_cut.Goals as goal

false_if_not : (b : Bool) → not b ≡ true → b ≡ false
false_if_not true e = absurd cc
false_if_not false e = refl

-- an end that the position one on lies past is no farther than the position itself
end_up_to : (dir : Dir) (at end : ℤ) → (IsUpTo dir end (ahead dir at 1) → ⊥) → IsUpTo dir at end
end_up_to Fore at end far = by_lt_z at end (λ near. absurd (far (omega (arith, ints)))) (λ up. up)
end_up_to Back at end far = by_lt_z end at (λ near. absurd (far (omega (arith, ints)))) (λ up. up)

pub returns-then-ne-clause-cut : goal.returns-then-ne-clause-cut
returns-then-ne-clause-cut c = λ cut.
    end_up_to c.args.dir c.args.stop.at.0 c.args.end.0
    (rw (← c.one_on.ensures)
    (not_if_false c.is_up_to.result c.is_up_to.ensures (false_if_not c.is_up_to.result cut)))
