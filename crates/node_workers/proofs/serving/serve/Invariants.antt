use Rattle.node_workers.proofs.serving.serve.Given as goal

abbrev pub ghosts-serve_named : goal.ghosts-serve_named
ghosts-serve_named g a = record { world = a.world.now }
