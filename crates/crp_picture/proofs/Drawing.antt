-- Pieces of a text, one after the other.
use Rattle.std.proofs.Common.{◌≡◌, ◌∙◌, ℕ, suc, ◌+◌, List, ◌++◌, length, ap, append_assoc, arith}
use Rattle.crp_follow.specs.declared.stated.StatedMove.{StatedMove}
use Rattle.crp_follow.specs.Crane.{Stack}
use Rattle.crp_follow.specs.Stated.{moves_of}
use Rattle.crp_follow.specs.Followed.{BayFollowed}
use Rattle.crp_picture.specs.declared.wording.Wording.TheVariants as wording
use Rattle.crp_picture.specs.Cells.{Cell}
use Rattle.crp_picture.specs.Frames.{Frame, frame_cells, aimed_at}
use Rattle.crp_picture.specs.Pictures.{line_of, lines_to, drawn, aim, first_arrow, position_picture, frame_picture}

-- two pieces, three and four
pub two : (t u v a b : List ℕ) → u ≡ t ++ a → v ≡ u ++ b → v ≡ t ++ (a ++ b)
two t u v a b e f = f ∙ ap (λ (l : List ℕ). l ++ b) e ∙ append_assoc t a b

pub three : (t u v w a b c : List ℕ) → u ≡ t ++ a → v ≡ u ++ b → w ≡ v ++ c → w ≡ t ++ (a ++ (b ++ c))
three t u v w a b c e f g = two t u w a (b ++ c) e (two u v w b c f g)

pub four : (t u v w x a b c d : List ℕ) → u ≡ t ++ a → v ≡ u ++ b → w ≡ v ++ c → x ≡ w ++ d → x ≡ t ++ (a ++ (b ++ (c ++ d)))
four t u v w x a b c d e f g h = two t u x a (b ++ (c ++ d)) e (three u v w x b c d f g h)

-- the lines of one tier more
pub lines_more : (tiers rows : ℕ) (cells : List Cell) (i tier : ℕ) (init old mid new : List ℕ) → tier ≡ suc i → old ≡ init ++ lines_to tiers rows cells i
    → mid ≡ old ++ line_of wording.Labels tiers rows cells tier → new ≡ mid ++ line_of wording.Steps tiers rows cells tier → new ≡ init ++ lines_to tiers rows cells (i + 1)
lines_more tiers rows cells i tier init old mid new is so_far labels steps =
    let one : suc i ≡ i + 1 = omega arith in
    let both = λ (n : ℕ). line_of wording.Labels tiers rows cells n ++ line_of wording.Steps tiers rows cells n in
    two init old new (lines_to tiers rows cells i) (both tier) so_far
    (two old mid new (line_of wording.Labels tiers rows cells tier) (line_of wording.Steps tiers rows cells tier) labels steps)
    ∙ ap (λ (n : ℕ). init ++ (lines_to tiers rows cells i ++ both n)) is ∙ ap (λ (n : ℕ). init ++ lines_to tiers rows cells n) one

-- the same containers, the same rows
pub drawn_same : (tiers rows others : ℕ) (cells these : List Cell) → rows ≡ others → cells ≡ these → drawn tiers rows cells ≡ drawn tiers others these
drawn_same tiers rows others cells these e f = ap (λ (n : ℕ). drawn tiers n cells) e ∙ ap (drawn tiers others) f

pub position_same : (tiers : ℕ) (all others : List StatedMove) (rows these : List Stack) → all ≡ others → rows ≡ these
    → position_picture tiers (moves_of all) rows ≡ position_picture tiers (moves_of others) these
position_same tiers all others rows these e f = ap (λ (l : List StatedMove). position_picture tiers (moves_of l) rows) e ∙ ap (position_picture tiers (moves_of others)) f

pub frame_same : (tiers : ℕ) (b : BayFollowed) (f : Frame) (all : List StatedMove) (rows : ℕ) (cells : List Cell) → all ≡ b.stated.moves → rows ≡ length f.before → cells ≡ frame_cells (moves_of all) f
    → drawn tiers rows cells ++ (aim tiers (moves_of all) f (aimed_at f) ++ first_arrow tiers f.step f.moves) ≡ frame_picture tiers b f
frame_same tiers b f all rows cells e n are =
    let arrow = first_arrow tiers f.step f.moves in
    ap (λ (l : List ℕ). l ++ (aim tiers (moves_of all) f (aimed_at f) ++ arrow)) (drawn_same tiers rows (length f.before) cells (frame_cells (moves_of all) f) n are)
    ∙ ap (λ (l : List StatedMove). drawn tiers (length f.before) (frame_cells (moves_of l) f) ++ (aim tiers (moves_of l) f (aimed_at f) ++ arrow)) e
