use Rattle.std.specs.Prelude.{ℕ, Bool, List}
use Rattle.qm_shelf.specs.CallNumbers.{is_listed}
use Rattle.qm_shelf.specs.declared.mem_sink.MemSink.{MemSink}

-- all that was written
abbrev pub written : MemSink → List ℕ
written sink = sink.bytes.items

-- how many writes were called for: the number of the next
abbrev pub calls : MemSink → ℕ
calls sink = sink.calls.made

-- the numbers of the writes that fail
abbrev pub failing : MemSink → List ℕ
failing sink = sink.calls.failing.items

-- how many writes failed
abbrev pub faults : MemSink → ℕ
faults sink = sink.faults

-- whether the next write is listed as one that fails
abbrev pub is_next_listed : MemSink → Bool
is_next_listed sink = is_listed (calls sink) (failing sink)
