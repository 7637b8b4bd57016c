use Rattle.std.proofs.Common.{◌≡◌, ◌∙◌, sym, length, rules, refl}
use Rattle.moment_core.specs.declared.line.Dir.TheVariants.{Fore, Back}
use Rattle.sieve_core.specs.Members.{meets_rank, rank_of}
use Rattle.sieve_core.proofs.RankLemmas.{ranks-capped}
use Rattle.sieve_core.proofs.tables.Sieve.meets_rank.Goals as goal

pub returns : goal.returns
unfolding meets_rank
returns c =
    let s = c.args.self.now in
    let len : length s.rank.0 ≡ 12 = search rules in
    c.is_in_signed.ensures ∙ ranks-capped s.rank.0 _ _ (rank_of s Back c.args.t.0)
    (rank_of s Fore c.args.t.0) c.rank-from_first.result c.rank-from_last.result len
    c.bits_below.ensures.clear c.bits_below-2.ensures.clear c.rank-from_first.ensures
    c.rank-from_last.ensures
    ∙ rw (sym c.is_zero.ensures ∙ c.if-is_zero.false) refl
