-- What a device shows of itself: the reader or writer in it, and whether a call of it has failed.
use Rattle.std.specs.Prelude.{Bool}
use Rattle.title_device.specs.declared.device.Device.{Device}

-- the reader or writer that the device wraps
abbrev pub wrapped_by : {T : Type 0} → Device T → T
wrapped_by device = device.inner

-- whether a call of the device has failed
abbrev pub is_failed : {T : Type 0} → Device T → Bool
is_failed device = device.failed
