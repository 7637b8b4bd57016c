use Rattle.query_core.proofs.Endless.{closest_for_ever, closest_in_range, current_for_ever, current_in_range, next_for_ever, next_in_range}
use Rattle.query_core.proofs.laws.endless_laws.Goals as goal

pub returns-clause-for_ever : goal.returns-clause-for_ever
returns-clause-for_ever c = record {
  next = λ tree dir at near lawful here h.
      next_for_ever c.endless_laws.ensures.none c.endless_laws.ensures.items tree lawful dir at near
      here h;
  current = λ tree at near lawful here h.
      current_for_ever c.endless_laws.ensures.none c.endless_laws.ensures.items tree lawful at near
      here h;
  closest = λ tree at near lawful here h.
      closest_for_ever c.endless_laws.ensures.none c.endless_laws.ensures.items tree lawful at near
      here h;
}

pub returns-clause-in_range : goal.returns-clause-in_range
returns-clause-in_range c = record {
  next =
      λ tree dir at near here h. next_in_range c.endless_laws.ensures.in_range tree
      c.window_laws.ensures.lie dir at near h;
  current =
      λ tree at near here h. current_in_range c.endless_laws.ensures.in_range tree
      c.window_laws.ensures.lie at near here h;
  closest =
      λ tree at near here h. closest_in_range c.endless_laws.ensures.in_range tree
      c.window_laws.ensures.lie at near here h;
}
