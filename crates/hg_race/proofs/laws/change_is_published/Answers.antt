use Rattle.hg_race.proofs.Poised.{append_is_published, difference_makes_the_new, drop_shows_the_same, new_file_is_published}
use Rattle.hg_race.proofs.laws.change_is_published.Goals as goal

pub returns-clause-appends : goal.returns-clause-appends
returns-clause-appends c = append_is_published

pub returns-clause-renews : goal.returns-clause-renews
returns-clause-renews c = new_file_is_published

pub returns-clause-drops : goal.returns-clause-drops
returns-clause-drops c = drop_shows_the_same

pub returns-clause-differs : goal.returns-clause-differs
returns-clause-differs c = difference_makes_the_new
