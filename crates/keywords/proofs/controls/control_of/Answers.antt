use Rattle.language.specs.Orders.{controls, control_of}
use Rattle.language.specs.Views.{control_seen}
use Rattle.keywords.proofs.Sieve.{found_under}
use Rattle.keywords.proofs.controls.control_of.Goals as goal

pub returns-in-65 : goal.returns-in-65
unfolding control_of
returns-in-65 c = search (found_under control_seen controls)

pub returns-in-67 : goal.returns-in-67
unfolding control_of
returns-in-67 c = search (found_under control_seen controls)

pub returns-in-69 : goal.returns-in-69
unfolding control_of
returns-in-69 c = search (found_under control_seen controls)

pub returns-in-71 : goal.returns-in-71
unfolding control_of
returns-in-71 c = search (found_under control_seen controls)

pub returns-in-73 : goal.returns-in-73
unfolding control_of
returns-in-73 c = search (found_under control_seen controls)

pub returns-in-80 : goal.returns-in-80
unfolding control_of
returns-in-80 c = search (found_under control_seen controls)

pub returns-in-82 : goal.returns-in-82
unfolding control_of
returns-in-82 c = search (found_under control_seen controls)

pub returns-in-83 : goal.returns-in-83
unfolding control_of
returns-in-83 c = search (found_under control_seen controls)

pub returns-in-84 : goal.returns-in-84
unfolding control_of
returns-in-84 c = search (found_under control_seen controls)
