-- Files in memory.
use Rattle.std.specs.Prelude.{ℕ, Bool, true, false, ◌||◌, not, is_none, nat_eq, List, Option, Some, None, option_map, position, slice_get, if◌then◌else◌}
use Rattle.std.specs.Str.{bytes_eq}
use Rattle.crp_files.specs.Known.{KnownFiles}
use Rattle.crp_memory_files.specs.declared.memory.StoredFile.{StoredFile}
use Rattle.crp_memory_files.specs.declared.memory.Written.{Written}

-- the name is one of the file's
abbrev pub bears : List ℕ → StoredFile → Bool
bears name file = bytes_eq file.name.now name || bytes_eq file.link.now name

-- where the file of this name stands among others, if one does
abbrev pub place_of : List StoredFile → List ℕ → Option ℕ
place_of stored name = position (bears name) stored

-- the bytes of a file that can be read: it was there from the beginning, and was not written
abbrev pub readable : Option StoredFile → Option Written → Option (List ℕ)
readable (Some file) (Some written) = if written.begun then None else option_map (λ bytes. bytes.now) file.given
readable file written = None

-- its bytes now
abbrev pub bytes_of : Option StoredFile → Option Written → Option (List ℕ)
bytes_of (Some file) (Some written) = if written.begun then Some written.bytes.items else option_map (λ bytes. bytes.now) file.given
bytes_of file written = None

abbrev pub readable_at : List StoredFile → List Written → Option ℕ → Option (List ℕ)
readable_at stored written None = None
readable_at stored written (Some place) = readable (slice_get stored place) (slice_get written place)

abbrev pub bytes_at : List StoredFile → List Written → Option ℕ → Option (List ℕ)
bytes_at stored written None = None
bytes_at stored written (Some place) = bytes_of (slice_get stored place) (slice_get written place)

-- both are the place of one file
abbrev pub is_one : Option ℕ → Option ℕ → Bool
is_one (Some place) (Some other) = nat_eq place other
is_one place other = false

-- all is known of them: a file can be read that was there from the beginning and was not written, and one can be written that has a name; two names lead to
-- one file where both are its names
abbrev pub known_in : List StoredFile → List Written → KnownFiles
known_in stored written = record {
  states = true;
  given = λ name. bytes_at stored written (place_of stored name);
  may_not_open = λ name. is_none (readable_at stored written (place_of stored name));
  may_not_create = λ name. is_none (place_of stored name);
  are_one = λ name other. Some (is_one (place_of stored name) (place_of stored other));
}

-- nothing is written yet
abbrev pub unwritten : Written → Bool
unwritten written = not written.begun
