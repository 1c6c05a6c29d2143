mod Shapes
