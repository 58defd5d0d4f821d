-- A file that is read, as it is or as a list with another byte between its fields.
use Rattle.std.specs.Prelude.{ℕ, ◌==◌, List, Option, option_map, if◌then◌else◌}
use Rattle.crp_separated.specs.declared.input.ListInput.{ListInput}
use Rattle.crp_separated.specs.declared.input.ListInput.TheVariants.{List as ListOf, Other}
use Rattle.crp_separated.specs.declared.separated.Separated.{Separated}
use Rattle.crp_separated.specs.declared.unmarked.Unmarked.{Unmarked}
use Rattle.crp_separated.specs.Separators.{list_with}

-- what is so of a list, or of another file
abbrev pub of_input : {R T : Type 0} → (Separated (Unmarked R) → T) → (R → T) → ListInput R → T
of_input list file (ListOf s) = list s
of_input list file (Other r) = file r

-- the file itself
abbrev pub other_source : {R : Type 0} → ListInput R → R
other_source (ListOf s) = s.source.source
other_source (Other r) = r

-- the list with commas that has the records of the list with this byte between its fields: one with commas is as it is
abbrev pub comma_list : ℕ → List ℕ → List ℕ
comma_list separator text = if separator == 44 then text else list_with separator 44 text

-- what is known of it, where this is known of the list
abbrev pub comma_list_of : ℕ → Option (List ℕ) → Option (List ℕ)
comma_list_of separator known = option_map (comma_list separator) known

-- the list with this byte between its fields that has the records of one with commas, which itself is as it is
abbrev pub with_separator : ℕ → List ℕ → List ℕ
with_separator separator list = if separator == 44 then list else list_with 44 separator list
