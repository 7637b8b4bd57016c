-- What a rule made ready means.
use Rattle.sieve_core.specs.Members.{is_candidate}
use Rattle.stored_pair.specs.Meanings.{Meaning}
use Rattle.stored_pair.specs.declared.guarded.Guarded.{Guarded}
use Rattle.ical_rules.specs.Leaves.{has_counted}
use Rattle.ical_rules.specs.declared.leaf.IcalLeaf.{IcalLeaf}

abbrev pub meaning_of_leaf : Guarded IcalLeaf → Meaning
meaning_of_leaf leaf = record {
  member = has_counted leaf.inner.sieve leaf.inner.until leaf.inner.count;
  candidate = is_candidate leaf.inner.sieve;
  frame = leaf.inner.frame;
}
