-- How large a recording may be.
-- own: two limits that the caller chooses, so that an input that is not what it was taken for does not take all memory. A report of
-- files has none that is not chosen: a file can be as long as a test ran, and of a capture only what it has of RTPS is kept. The
-- size of a datagram is no choice: UDP carries at most 65,535 octets (RFC 768, "Format").
use Rattle.std.specs.Prelude.{◌^◌, ◌-◌}
use Rattle.rtps_tool.specs.declared.runs.Limits.{Limits}

-- those of a caller who chooses none
abbrev pub usual : Limits
usual = record { datagrams = 1000000; octets = 2 ^ 30 }

-- those of a report of files for which none are chosen: the greatest that can be
abbrev pub of_files : Limits
of_files = record { datagrams = 2 ^ 63 - 1; octets = 2 ^ 63 - 1 }
