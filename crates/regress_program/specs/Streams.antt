-- What a source and a sink over std's readers and writers hold.
use Rattle.std.specs.Prelude.{Bool}
use Rattle.regress_program.specs.declared.source.StdSource.{StdSource}
use Rattle.regress_program.specs.declared.sink.StdSink.{StdSink}

-- the reader of a source
abbrev pub reader_of : {R : Type 0} → StdSource R → R
reader_of s = s.reader

-- whether a read of a source has failed
abbrev pub read_failed : {R : Type 0} → StdSource R → Bool
read_failed s = s.has_failed

-- the writer of a sink
abbrev pub writer_of : {W : Type 0} → StdSink W → W
writer_of s = s.writer

-- whether a write of a sink has failed
abbrev pub write_failed : {W : Type 0} → StdSink W → Bool
write_failed s = s.has_failed
