use Rattle.hg_device_tests.proofs.dirstates.+print_nodes.Given as goal

abbrev pub decreases-print_nodes : goal.decreases-print_nodes
decreases-print_nodes l = l.list.depth
