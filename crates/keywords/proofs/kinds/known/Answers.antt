use Rattle.language.specs.Names.{known_names}
use Rattle.language.specs.Views.{kind_seen}
use Rattle.keywords.proofs.Sieve.{found_under}
use Rattle.keywords.proofs.kinds.known.Goals as goal

pub returns-in-0 : goal.returns-in-0
returns-in-0 c = search (found_under kind_seen known_names)

pub returns-in-48 : goal.returns-in-48
returns-in-48 c = search (found_under kind_seen known_names)

pub returns-in-65 : goal.returns-in-65
returns-in-65 c = search (found_under kind_seen known_names)

pub returns-in-66 : goal.returns-in-66
returns-in-66 c = search (found_under kind_seen known_names)

pub returns-in-67 : goal.returns-in-67
returns-in-67 c = search (found_under kind_seen known_names)

pub returns-in-68 : goal.returns-in-68
returns-in-68 c = search (found_under kind_seen known_names)

pub returns-in-69 : goal.returns-in-69
returns-in-69 c = search (found_under kind_seen known_names)

pub returns-in-70 : goal.returns-in-70
returns-in-70 c = search (found_under kind_seen known_names)

pub returns-in-71 : goal.returns-in-71
returns-in-71 c = search (found_under kind_seen known_names)

pub returns-in-73 : goal.returns-in-73
returns-in-73 c = search (found_under kind_seen known_names)

pub returns-in-76 : goal.returns-in-76
returns-in-76 c = search (found_under kind_seen known_names)

pub returns-in-78 : goal.returns-in-78
returns-in-78 c = search (found_under kind_seen known_names)

pub returns-in-80 : goal.returns-in-80
returns-in-80 c = search (found_under kind_seen known_names)

pub returns-in-82 : goal.returns-in-82
returns-in-82 c = search (found_under kind_seen known_names)

pub returns-in-83 : goal.returns-in-83
returns-in-83 c = search (found_under kind_seen known_names)

pub returns-in-84 : goal.returns-in-84
returns-in-84 c = search (found_under kind_seen known_names)

pub returns-in-85 : goal.returns-in-85
returns-in-85 c = search (found_under kind_seen known_names)

pub returns-in-87 : goal.returns-in-87
returns-in-87 c = search (found_under kind_seen known_names)
