-- The limits of a box.
use Rattle.std.specs.Prelude.{ℕ}

-- handles of one shell at one time
abbrev pub most_handles : ℕ
most_handles = 1024

-- shells made, the root among them
abbrev pub most_shells : ℕ
most_shells = 4096

-- what has a path, and nameless files
abbrev pub most_files : ℕ
most_files = 65536

-- bytes of a file
abbrev pub most_bytes : ℕ
most_bytes = 16777216

-- bytes that a pipe holds
abbrev pub most_held : ℕ
most_held = 65536

-- the number of a handle, of a program and of a fork
abbrev pub most_number : ℕ
most_number = 4294967295

-- a count of handles stops there; no box has so many
abbrev pub most_count : ℕ
most_count = 18446744073709551615
