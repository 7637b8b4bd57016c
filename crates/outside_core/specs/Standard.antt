use Rattle.std.specs.Prelude.{ℕ, ◌<◌, List, length, take, Option}
use Rattle.std.specs.Io.KnownBytes.{Appends}
use Rattle.outside_core.specs.declared.writes.Put.{Put}
use Rattle.outside_core.specs.declared.writes.Put.TheVariants.{All, Failed}
use Rattle.outside_core.specs.declared.standard.StdSource.{StdSource}
use Rattle.outside_core.specs.declared.standard.StdSink.{StdSink}

-- the reader under a source
abbrev pub source_reader : {R : Type 0} → StdSource R → R
source_reader s = s.reader

-- how many reads of it failed
abbrev pub source_faults : {R : Type 0} → StdSource R → ℕ
source_faults s = s.faults

-- the writer under a sink
abbrev pub sink_writer : {W : Type 0} → StdSink W → W
sink_writer s = s.writer

-- how many writes to it failed
abbrev pub sink_faults : {W : Type 0} → StdSink W → ℕ
sink_faults s = s.faults

-- a writer whose bytes are known took the piece, or its first n bytes, fewer than all
abbrev pub HandsOn : Option (List ℕ) → Option (List ℕ) → List ℕ → Put → Type 0
HandsOn before after piece All = Appends before after piece
HandsOn before after piece (Failed n) = (n < length piece) × Appends before after (take n piece)
