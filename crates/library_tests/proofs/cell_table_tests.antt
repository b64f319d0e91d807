mod BenchLaws
