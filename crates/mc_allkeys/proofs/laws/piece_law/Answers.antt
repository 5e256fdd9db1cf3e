use Rattle.mc_allkeys.specs.Pieces.{piece_len}
use Rattle.mc_allkeys.proofs.FrontLemmas.{piece_len-is, piece_len-one, piece_len-within, piece_len-across}
use Rattle.mc_allkeys.proofs.laws.piece_law.Goals as goal

pub returns-clause-is : goal.returns-clause-is
returns-clause-is c = piece_len-is

pub returns-clause-one : goal.returns-clause-one
returns-clause-one c = λ contractions codes len h.
    piece_len-one contractions codes (piece_len contractions codes) len (piece_len-is contractions codes) h

pub returns-clause-within : goal.returns-clause-within
returns-clause-within c = piece_len-within

pub returns-clause-across : goal.returns-clause-across
returns-clause-across c = piece_len-across
