use Rattle.hg_words.proofs.Readings.{number_read, number_refused}
use Rattle.hg_words.proofs.reading.number.Goals as goal

pub returns-else-n-gt2000 : goal.returns-else-n-gt2000
returns-else-n-gt2000 c =
    number_read c.args.word.now c.in-Ok.n c.in-Ok.ensures.value.0.0.0 c.in-Ok.ensures.value.0.1 c.if-n-lt1.false c.if-n-gt2000.false

pub returns-in-Err : goal.returns-in-Err
returns-in-Err c = number_refused c.args.word.now (λ numeral below least most. c.in-Err.ensures.value.0 (numeral, below))
