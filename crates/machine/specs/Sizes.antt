-- The sizes of document 01: a host frame, a page, a segment, and the block in which origin and extent are counted.
use Rattle.std.specs.Prelude.{ℕ}

abbrev pub frame_bytes : ℕ
frame_bytes = 4096

abbrev pub page_bytes : ℕ
page_bytes = 4096

abbrev pub segment_bytes : ℕ
segment_bytes = 1048576

abbrev pub segment_pages : ℕ
segment_pages = 256

abbrev pub block_bytes : ℕ
block_bytes = 65536

abbrev pub block_pages : ℕ
block_pages = 16
