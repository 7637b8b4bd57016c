-- The commands and the keys of their words.
use Rattle.std.specs.Prelude.{ℕ, Bool, true, false, List, [], ◌∷◌, ◌++◌, codes}
use Rattle.query_words.specs.declared.commands.Command.{Command}
use Rattle.query_words.specs.declared.commands.Command.TheVariants.{Next, Previous, Current, Closest, Contains, Walk, Resume, Min, Max, Empty, Count, Duration, Audit, ContainsSet, Intersects, Intersected, Show, Load}
use Rattle.query_words.specs.declared.commands.Key.{Key}
use Rattle.query_words.specs.declared.commands.Key.TheVariants.{At, From, To, Dir, Limit, Budget, Token, Seed}

-- the word of a command
abbrev pub name_of : Command → List ℕ
name_of Next = codes "next"
name_of Previous = codes "previous"
name_of Current = codes "current"
name_of Closest = codes "closest"
name_of Contains = codes "contains"
name_of Walk = codes "walk"
name_of Resume = codes "resume"
name_of Min = codes "min"
name_of Max = codes "max"
name_of Empty = codes "empty"
name_of Count = codes "count"
name_of Duration = codes "duration"
name_of Audit = codes "audit"
name_of ContainsSet = codes "contains_set"
name_of Intersects = codes "intersects"
name_of Intersected = codes "intersected"
name_of Show = codes "show"
name_of Load = codes "load"

-- the keys that must stand behind a command
abbrev pub required : Command → List Key
required Next = At ∷ []
required Previous = At ∷ []
required Current = At ∷ []
required Closest = At ∷ []
required Contains = At ∷ []
required Walk = []
required Resume = Token ∷ []
required Min = []
required Max = []
required Empty = []
required Count = []
required Duration = []
required Audit = From ∷ To ∷ []
required ContainsSet = []
required Intersects = []
required Intersected = []
required Show = []
required Load = Seed ∷ []

-- the keys that may stand there besides
abbrev pub optional : Command → List Key
optional Next = Budget ∷ []
optional Previous = Budget ∷ []
optional Current = Budget ∷ []
optional Closest = Budget ∷ []
optional Contains = Budget ∷ []
optional Walk = From ∷ To ∷ Dir ∷ Limit ∷ Budget ∷ []
optional Resume = Limit ∷ Budget ∷ []
optional Min = Budget ∷ []
optional Max = Budget ∷ []
optional Empty = Budget ∷ []
optional Count = From ∷ To ∷ Budget ∷ []
optional Duration = From ∷ To ∷ Budget ∷ []
optional Audit = Budget ∷ []
optional ContainsSet = Budget ∷ []
optional Intersects = Budget ∷ []
optional Intersected = From ∷ To ∷ Limit ∷ Budget ∷ []
optional Show = []
optional Load = []

abbrev pub keys_of : Command → List Key
keys_of command = required command ++ optional command

-- the commands that are built
abbrev pub is_built : Command → Bool
is_built Next = true
is_built Previous = true
is_built Current = true
is_built Closest = true
is_built Contains = true
is_built Walk = true
is_built Resume = true
is_built Show = true
is_built other = false

-- the text of a key
abbrev pub key_text : Key → List ℕ
key_text At = codes "at"
key_text From = codes "from"
key_text To = codes "to"
key_text Dir = codes "dir"
key_text Limit = codes "limit"
key_text Budget = codes "budget"
key_text Token = codes "token"
key_text Seed = codes "seed"
