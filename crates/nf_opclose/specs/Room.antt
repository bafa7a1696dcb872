-- Room for one more item.
use Rattle.std.specs.Prelude.{◌<◌, ◌^◌}
use Rattle.nf_opclose.specs.Running.{HasRoom}
use Rattle.nf_opclose.specs.declared.count.CountState.{CountState}
use Rattle.nf_opclose.specs.declared.reduce.ReduceState.{ReduceState}
use Rattle.nf_opclose.specs.declared.sum.SumState.{SumState}

-- fewer than 2^32 items came before
abbrev pub HasCountRoom : CountState → Type 0
HasCountRoom s = s.count < 2 ^ 32

-- fewer than 2^32 items came before
abbrev pub HasSumRoom : SumState → Type 0
HasSumRoom s = s.numbers.count < 2 ^ 32

-- at most 2^32 values came before, the initial value among them, or the closure makes no total of them
abbrev pub HasReduceRoom : ReduceState → Type 0
HasReduceRoom s = HasRoom s.running
