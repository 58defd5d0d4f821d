use Rattle.std.proofs.Common.{◌≡◌, ◌∙◌, List, ℕ, Some, ◌∷◌, [], ◌++◌, ap, codes, subst, sym}
use Rattle.std.proofs.lemmas.List.{append_assoc}
use Rattle.crp_jobs.specs.Advice.{file_words, names_words, name_and_stream_words}
use Rattle.crp_commands.specs.Noted.{GetsLines}
use Rattle.crp_words.specs.Endings.{fault_lines}
use Rattle.crp_words.proofs.ending.explain_at.Goals as goal

-- the pieces of the lines of a fault at a file
file_lines : (name text advice : List ℕ) →
    codes "crp: " ++ (text ++ (codes "\nlook at the file " ++ (name ++ (codes ": " ++ (advice ++ 10 ∷ []))))) ≡ fault_lines text (Some (file_words name)) advice
file_lines name text advice = ap (λ rest. codes "crp: " ++ (text ++ (codes "\nlook at the file " ++ rest))) (sym (append_assoc name (codes ": ") (advice ++ 10 ∷ [])))

-- and of two files that are one
one_file : (name middle other rest : List ℕ) → ((name ++ (middle ++ (other ++ codes " are of one file"))) ++ codes ": ") ++ rest ≡ name ++ (middle ++ (other ++ (codes " are of one file: " ++ rest)))
one_file name middle other rest =
    append_assoc (name ++ (middle ++ (other ++ codes " are of one file"))) (codes ": ") rest
    ∙ append_assoc name (middle ++ (other ++ codes " are of one file")) (codes ": " ++ rest)
    ∙ ap (λ x. name ++ x) (append_assoc middle (other ++ codes " are of one file") (codes ": " ++ rest))
    ∙ ap (λ x. name ++ (middle ++ x)) (append_assoc other (codes " are of one file") (codes ": " ++ rest))

names_lines : (name other text advice : List ℕ) →
    codes "crp: " ++ (text ++ (codes "\nthe names " ++ (name ++ (codes " and " ++ (other ++ (codes " are of one file: " ++ (advice ++ 10 ∷ []))))))) ≡
    fault_lines text (Some (names_words name other)) advice
names_lines name other text advice =
    ap (λ rest. codes "crp: " ++ (text ++ (codes "\nthe names " ++ rest))) (sym (one_file name (codes " and ") other (advice ++ 10 ∷ [])))

stream_lines : (name stream text advice : List ℕ) →
    codes "crp: " ++ (text ++ (codes "\nthe name " ++ (name ++ (codes " and " ++ (stream ++ (codes " are of one file: " ++ (advice ++ 10 ∷ []))))))) ≡
    fault_lines text (Some (name_and_stream_words name stream)) advice
stream_lines name stream text advice =
    ap (λ rest. codes "crp: " ++ (text ++ (codes "\nthe name " ++ rest))) (sym (one_file name (codes " and ") stream (advice ++ 10 ∷ [])))

pub returns-in-File : goal.returns-in-File
returns-in-File g c = rw c.in-File.is (subst (GetsLines _) (file_lines c.in-File.name.now c.args.text.now c.args.advice.now)
    (rw c.as_bytes.ensures.value at c.write_pieces.ensures))

pub returns-in-StandardInput : goal.returns-in-StandardInput
returns-in-StandardInput g c = rw c.in-StandardInput.is c.write_pieces-in-StandardInput.ensures

pub returns-in-StandardOutput : goal.returns-in-StandardOutput
returns-in-StandardOutput g c = rw c.in-StandardOutput.is c.write_pieces-in-StandardOutput.ensures

pub returns-in-Names : goal.returns-in-Names
returns-in-Names g c = rw c.in-Names.is (subst (GetsLines _)
    (names_lines c.in-Names.name.now c.in-Names.other.now c.args.text.now c.args.advice.now)
    (rw c.as_bytes-in-Names.ensures.value at (rw c.as_bytes-in-Names-2.ensures.value at c.write_pieces-in-Names.ensures)))

pub returns-in-NameAndStream : goal.returns-in-NameAndStream
returns-in-NameAndStream g c = rw c.in-NameAndStream.is (subst (GetsLines _)
    (stream_lines c.in-NameAndStream.name.now c.in-NameAndStream.stream.now c.args.text.now c.args.advice.now)
    (rw c.as_bytes-in-NameAndStream.ensures.value at (rw c.as_bytes-in-NameAndStream-2.ensures.value at c.write_pieces-in-NameAndStream.ensures)))
